-- From what reading the files of a job gave to what may be told.
use Rattle.std.proofs.Common.{◌≡◌, ℕ, zero, suc, List, [], ◌∷◌, Option, Some, None, Result, Ok, Err, IfOk, OnErr, get_or, map, slice_get, refl, sym, subst, ap, ◌∙◌, arith}
use Rattle.std.proofs.lemmas.Option.{get_or_from_slice_get}
use Rattle.edge_io.specs.declared.files.Files.{Ghosts}
use Rattle.enhsp_words.specs.Jobs.{job_of}
use Rattle.enhsp_words.specs.declared.job.Job.{Job}
use Rattle.pair_text.specs.declared.refusals.Source.{Source}
use Rattle.pair_text.specs.declared.refusals.Refusal.TheVariants as refusal
use Rattle.run_answers.specs.Refused.{refused}
use Rattle.run_answers.specs.declared.answers.Answer.{Answer}
use Rattle.whole_files.specs.Gathered.{AreGathered, IsMissing, IsTooLarge}
use Rattle.whole_files.specs.Seen.{Seen, HasNoFault, ReadsWell, saw}
use Rattle.whole_files.specs.declared.wanted.Wanted.{Wanted}
use Rattle.enhsp_run.specs.Answers.{AnswersBuilt, AnswersJob, AnswersRead, AnswersTexts, IsAnswer, file_fault, usage}
use Rattle.enhsp_run.specs.Answers.AnswersBuilt.{read, missing, too_large}
use Rattle.enhsp_run.specs.Commands.{Entry, files_in, name_in, wanted_file}
use Rattle.enhsp_run.specs.Commands.Entry.{Built, Unbuilt}
use Rattle.enhsp_run.specs.Outcomes.{CanTell, IsMade}
use Rattle.enhsp_run.specs.Told.{Told, plainly}
use Rattle.enhsp_run.specs.declared.outcomes.Outcome.{Outcome}
use Rattle.enhsp_run.specs.declared.outcomes.Outcome.TheVariants.{Written}

-- ---- outcomes

-- an answer without a search can be told where it may be
pub written : (May : Told → Type 0) (answer : Answer) → May (plainly answer) → CanTell May (Written answer)
written May answer may = record { sent = tt; tells = λ told is. subst May (sym is) may }

pub more : (P Q : Told → Type 0) (outcome : Outcome) → ((told : Told) → P told → Q told) → CanTell P outcome → CanTell Q outcome
more P Q outcome also can = record { sent = can.sent; tells = λ told is. also told (can.tells told is) }

-- ---- where no file is begun

nothing_seen : {F : Type 0} (f : Ghosts F) (files : F) → ReadsWell (saw f files files) 0
unfolding saw
nothing_seen f files = record { begun = λ below. omega arith; no_fault = refl }

unbuilt_answer : {F : Type 0} (f : Ghosts F) (files : F) (e : Entry) (job : Job) → None ≡ files_in e → AnswersJob e (saw f files files) job (plainly (refused refusal.Unbuilt))
unbuilt_answer f files Unbuilt job is = (refl, nothing_seen f files)
unbuilt_answer f files (Built rules) job is = absurd (cc is)

pub of_unbuilt : {F : Type 0} (f : Ghosts F) (files : F) (e : Entry) (job : Job) (answer : Answer) → None ≡ files_in e → answer ≡ refused refusal.Unbuilt → CanTell (AnswersJob e (saw f files files) job) (Written answer)
of_unbuilt f files e job answer is says =
    subst (λ (a : Answer). CanTell (AnswersJob e (saw f files files) job) (Written a)) (sym says)
    (written (AnswersJob e (saw f files files) job) (refused refusal.Unbuilt) (unbuilt_answer f files e job is))

pub of_no_job : {F : Type 0} (f : Ghosts F) (files : F) (words : List (List ℕ)) (answer : Answer) → job_of words ≡ None → answer ≡ usage → CanTell (IsAnswer (saw f files files) words) (Written answer)
of_no_job f files words answer is says =
    let may : IsAnswer (saw f files files) words (plainly usage) = subst (λ (job : Option Job). AnswersRead (saw f files files) job (plainly usage)) (sym is) (refl, nothing_seen f files) in
    subst (λ (a : Answer). CanTell (IsAnswer (saw f files files) words) (Written a)) (sym says)
    (written (IsAnswer (saw f files files) words) usage may)

-- ---- where files are read

-- the files of a job, as those that are read
abbrev wanted : Job → List Source → List Wanted
wanted job files = map (wanted_file job) files

texts_answer : (e : Entry) (seen : Seen) (job : Job) (files : List Source) (texts : List (List ℕ)) (told : Told) → files_in e ≡ Some files → AreGathered seen (wanted job files) texts → AnswersTexts e job texts told → AnswersJob e seen job told
texts_answer Unbuilt seen job files texts told is are says = absurd says
texts_answer (Built rules) seen job files texts told is are says =
    let same : files ≡ rules.files = cc is in
    read texts told (subst (λ (fs : List Source). AreGathered seen (wanted job fs) texts) same are) says

pub of_texts : {E : Type 0} (e : Entry) (seen : Seen) (job : Job) (files : List Source) (texts : List (List ℕ)) (result : Result Outcome E) → files_in e ≡ Some files → AreGathered seen (wanted job files) texts → IfOk result (CanTell (AnswersTexts e job texts)) → IfOk result (CanTell (AnswersJob e seen job))
of_texts e seen job files texts (Err fault) is are says = tt
of_texts e seen job files texts (Ok outcome) is are says =
    more (AnswersTexts e job texts) (AnswersJob e seen job) outcome (λ told. texts_answer e seen job files texts told is are) says

-- what was made of each file at a place was made of the file there
at_place : {A : Type 0} (f : Source → A) (files : List Source) (k : ℕ) (a : A) → slice_get (map f files) k ≡ Some a → (file : Source) × (slice_get files k ≡ Some file) × (f file ≡ a)
at_place f [] k a is = absurd (cc is)
at_place f (x ∷ files) zero a is = (x, refl, cc is)
at_place f (x ∷ files) (suc k) a is = at_place f files k a is

missing_answer : (e : Entry) (seen : Seen) (job : Job) (files : List Source) (k : ℕ) (answer : Answer) → files_in e ≡ Some files → IsMissing seen (wanted job files) k → slice_get (map (λ file. file_fault (name_in job file)) files) k ≡ Some answer → AnswersJob e seen job (plainly answer)
missing_answer Unbuilt seen job files k answer is at given = absurd (cc is)
missing_answer (Built rules) seen job files k answer is at given =
    let there = at_place (λ file. file_fault (name_in job file)) files k answer given in
    let same : files ≡ rules.files = cc is in
    subst (λ (a : Answer). AnswersBuilt rules seen job (plainly a)) there.2
    (
    missing k there.0 (subst (λ (fs : List Source). slice_get fs k ≡ Some there.0) same there.1)
    (subst (λ (fs : List Source). IsMissing seen (wanted job fs) k) same at)
    )

pub of_missing : (e : Entry) (seen : Seen) (job : Job) (files : List Source) (k : ℕ) (answer : Answer) → files_in e ≡ Some files → IsMissing seen (wanted job files) k → slice_get (map (λ file. file_fault (name_in job file)) files) k ≡ Some answer → CanTell (AnswersJob e seen job) (Written answer)
of_missing e seen job files k answer is at given = written (AnswersJob e seen job) answer (missing_answer e seen job files k answer is at given)

large_at : (seen : Seen) (job : Job) (files : List Source) (k : ℕ) (d : Source) → IsTooLarge seen (wanted job files) k → slice_get files k ≡ Some (get_or files k d)
large_at seen job files k d at =
    let there = at_place (wanted_file job) files k at.file at.kth in
    there.1 ∙ ap Some (sym (get_or_from_slice_get files k there.0 d there.1))

large_answer : (e : Entry) (seen : Seen) (job : Job) (files : List Source) (k : ℕ) (d : Source) → files_in e ≡ Some files → IsTooLarge seen (wanted job files) k → AnswersJob e seen job (plainly (refused (refusal.TooLarge (get_or files k d))))
large_answer Unbuilt seen job files k d is at = absurd (cc is)
large_answer (Built rules) seen job files k d is at =
    let file = get_or files k d in
    let same : files ≡ rules.files = cc is in
    too_large k file (subst (λ (fs : List Source). slice_get fs k ≡ Some file) same (large_at seen job files k d at))
    (subst (λ (fs : List Source). IsTooLarge seen (wanted job fs) k) same at)

pub of_large : {E : Type 0} (e : Entry) (seen : Seen) (job : Job) (files : List Source) (k : ℕ) (d : Source) (result : Result Outcome E) → files_in e ≡ Some files → IsTooLarge seen (wanted job files) k → IfOk result (λ outcome. outcome ≡ Written (refused (refusal.TooLarge (get_or files k d)))) → IfOk result (CanTell (AnswersJob e seen job))
of_large e seen job files k d (Err fault) is at says = tt
of_large e seen job files k d (Ok outcome) is at says =
    let answer = refused (refusal.TooLarge (get_or files k d)) in
    subst (CanTell (AnswersJob e seen job)) (sym says) (written (AnswersJob e seen job) answer (large_answer e seen job files k d is at))

-- ---- faults of the files

pub same_faults : {F : Type 0} (f : Ghosts F) (before after : F) → HasNoFault (saw f before after) → f.faults after ≡ f.faults before
unfolding saw
same_faults f before after calm = calm

pub on_made : {E X : Type 0} (result : Result Outcome E) → X → IfOk result (λ outcome. IsMade outcome → X)
on_made (Ok outcome) x = λ made. x
on_made (Err fault) x = tt

pub on_memory : {A E X : Type 0} (result : Result A E) → X → OnErr result X
on_memory (Ok a) x = tt
on_memory (Err fault) x = x
