-- The size of a job that generates a task.
use Rattle.std.proofs.Common.{◌≡◌, ℕ, zero, suc, ◌≤◌, List, [], ◌∷◌, slice_get, Bool, true, false, Option, None, Some, codes, is_some, nat_le, cond, refl, sym, subst, ap, ◌∙◌, option_and_then}
use Rattle.std.specs.List.{list_all}
use Rattle.std.proofs.lemmas.Bool.{and_parts, leb-true}
use Rattle.clap.specs.Walk.{Text}
use Rattle.enhsp_words.specs.CommandLine.{is_command_line, value_in}
use Rattle.enhsp_words.specs.Jobs.{Values, has_its_options, is_within, job_of, job_of_values, job_with, limit_bounds, name_of, number_of, numeral_of, option_ids, size_bounds, third_of, thread_bounds}
use Rattle.enhsp_words.specs.Options.{command_of, fits, presence_of}
use Rattle.enhsp_words.specs.declared.job.Command.{Command}
use Rattle.enhsp_words.specs.declared.job.Command.TheVariants as command
use Rattle.enhsp_words.specs.declared.job.Job.{Job}
use Rattle.enhsp_run.specs.Outcomes.{IsJob}

-- ---- optional values

both_there : {A B : Type 0} (x : Option A) (f : A → Option B) (b : B) → option_and_then f x ≡ Some b → (a : A) × (x ≡ Some a) × (f a ≡ Some b)
both_there None f b is = absurd (cc is)
both_there (Some a) f b is = (a, refl, is)

if_there : {A : Type 0} (test : Bool) (x : Option A) (a : A) → cond test x None ≡ Some a → (test ≡ true) × (x ≡ Some a)
if_there true x a is = (refl, is)
if_there false x a is = absurd (cc is)

-- ---- a job of a command

with_size : (c : Command) (value : Values) (job : Job) → job_with c value ≡ Some job → (job.command ≡ c) × (number_of size_bounds (value (codes "size")) ≡ Some job.size)
unfolding job_with
with_size c value job is =
    let domain = both_there (name_of (value (codes "domain"))) _ job is in
    let problem = both_there (name_of (value (codes "problem"))) _ job domain.2 in
    let third = both_there (name_of (third_of value)) _ job problem.2 in
    let limit = both_there (number_of limit_bounds (value (codes "limit"))) _ job third.2 in
    let workers = both_there (number_of thread_bounds (value (codes "workers"))) _ job limit.2 in
    let relaxers = both_there (number_of thread_bounds (value (codes "relaxers"))) _ job workers.2 in
    let size = both_there (number_of size_bounds (value (codes "size"))) _ job relaxers.2 in
    let same : record {
      command = c;
      domain = domain.0;
      problem = problem.0;
      third = third.0;
      limit = limit.0;
      workers = workers.0;
      relaxers = relaxers.0;
      size = size.0;
    } ≡ job = cc size.2 in
    (sym (ap (λ (j : Job). j.command) same), size.1 ∙ ap (λ (j : Job). Some j.size) same)

-- ---- the size

-- a size that is given is within its bounds
within : (given : Option Text) (n : ℕ) → is_some given ≡ true → number_of size_bounds given ≡ Some n → (2 ≤ n) × (n ≤ 64)
within None n there is = absurd (cc there)
within (Some text) n there is =
    let read = both_there (numeral_of text) (λ m. cond (is_within size_bounds m) (Some m) None) n is in
    let inside = if_there (is_within size_bounds read.0) (Some read.0) n read.2 in
    let same : read.0 ≡ n = cc inside.1 in
    let parts = and_parts (nat_le 2 read.0) (nat_le read.0 64) inside.0 in (
      subst (λ (m : ℕ). 2 ≤ m) same (leb-true 2 read.0 parts.0),
      subst (λ (m : ℕ). m ≤ 64) same (leb-true read.0 64 parts.1),
    )

-- what holds of all members of a list holds of the one at a place
at_place : {A : Type 0} (test : A → Bool) (xs : List A) (k : ℕ) (x : A) → list_all test xs ≡ true → slice_get xs k ≡ Some x → test x ≡ true
at_place test [] k x all is = absurd (cc is)
at_place test (y ∷ ys) zero x all is =
    let same : y ≡ x = cc is in
    subst (λ z. test z ≡ true) same (and_parts (test y) (list_all test ys) all).0
at_place test (y ∷ ys) (suc k) x all is = at_place test ys k x (and_parts (test y) (list_all test ys) all).1 is

-- a command line that generates a task gives its size
size_given : (value : Values) → has_its_options command.Generate value ≡ true → is_some (value (codes "size")) ≡ true
size_given value has = at_place (λ id. fits (presence_of command.Generate id) (value id)) option_ids 7 (codes "size") has refl

generated : (value : Values) (c : Command) (job : Job) → cond (has_its_options c value) (job_with c value) None ≡ Some job → job.command ≡ command.Generate → (2 ≤ job.size) × (job.size ≤ 64)
generated value c job is generates =
    let has = if_there (has_its_options c value) (job_with c value) job is in
    let sized = with_size c value job has.1 in
    let same : c ≡ command.Generate = sym sized.0 ∙ generates in
    within (value (codes "size")) job.size
    (size_given value (subst (λ (d : Command). has_its_options d value ≡ true) same has.0)) sized.1

sized_job : (words : List Text) (job : Job) → job_of words ≡ Some job → job.command ≡ command.Generate → (2 ≤ job.size) × (job.size ≤ 64)
unfolding job_of
sized_job words job is generates =
    let line = if_there (is_command_line words) (job_of_values (value_in words)) job is in
    let value = value_in words in
    let named = both_there (option_and_then command_of (value (codes "command"))) (λ c. cond (has_its_options c value) (job_with c value) None) job line.1 in
    generated (value_in words) named.0 job named.2 generates

-- a job that generates a task has a size from 2 to 64
pub size_within : (job : Job) → IsJob job → job.command ≡ command.Generate → (2 ≤ job.size) × (job.size ≤ 64)
size_within job is generates = sized_job is.0 job is.1 generates
