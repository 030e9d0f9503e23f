-- The commands: the files that each reads, and what it may tell of their texts.
use Rattle.std.specs.Prelude.{ℕ, ◌≡◌, ◌≤◌, List, [], ◌∷◌, Option, Some, None, Contains, length}
use Rattle.std.specs.List.{AllZip}
use Rattle.answer_text.specs.Texts.{IsTextOf}
use Rattle.certify_command.specs.Answers as certify
use Rattle.enhsp_words.specs.declared.job.Command.{Command}
use Rattle.enhsp_words.specs.declared.job.Command.TheVariants as command
use Rattle.enhsp_words.specs.declared.job.Job.{Job}
use Rattle.pair_task.specs.Tasks as tasks
use Rattle.pair_task.specs.Refusals.{IsRefusal}
use Rattle.pair_text.specs.declared.refusals.Source.{Source}
use Rattle.pair_text.specs.declared.refusals.Source.TheVariants.{Domain, Problem, Plan, Certificate}
use Rattle.plan_command.specs.Found as plan
use Rattle.relax_command.specs.Answers as relax
use Rattle.validate_command.specs.Answers as validate
use Rattle.run_answers.specs.declared.answers.Answer.{Answer}
use Rattle.task_gen.specs.Counters.{domain_text, problem_text}
use Rattle.upgrade_command.specs.Answers as upgrade
use Rattle.whole_files.specs.declared.wanted.Wanted.{Wanted}
use Rattle.enhsp_run.specs.Certificates.{Certifies}
use Rattle.enhsp_run.specs.Searches.{SearchEnds}
use Rattle.enhsp_run.specs.Told.{TextOf, IsSummaryOf, TellsSearch, Told, plainly}

-- ---- files

-- the name of a file of a job
abbrev pub name_in : Job → Source → List ℕ
name_in job Domain = job.domain
name_in job Problem = job.problem
name_in job Plan = job.third
name_in job Certificate = job.third

-- the most bytes that a file may have
abbrev pub most_bytes : Source → ℕ
most_bytes Domain = 1048576
most_bytes Problem = 1048576
most_bytes Plan = 1048576
most_bytes Certificate = 1073741824

abbrev pub wanted_file : Job → Source → Wanted
wanted_file job file = record { name = name_in job file; limit = most_bytes file }

-- ---- texts

-- This holds of no text, of the texts of a domain and a problem, and of those of a third file besides.
abbrev pub OfNone : Type 0 → List (List ℕ) → Type 0
OfNone P [] = P
OfNone P _ = ⊥

abbrev pub OfPair : (List ℕ → List ℕ → Type 0) → List (List ℕ) → Type 0
OfPair P (domain ∷ problem ∷ []) = P domain problem
OfPair P _ = ⊥

abbrev pub OfThree : (List ℕ → List ℕ → List ℕ → Type 0) → List (List ℕ) → Type 0
OfThree P (domain ∷ problem ∷ third ∷ []) = P domain problem third
OfThree P _ = ⊥

-- ---- what a command does

-- the rules of a command
pub record CommandRules : Type 1 where
  -- the files that it reads, in their order
  pub files : List Source
  -- this may be told of a job with these texts
  pub IsAnswer : Job → List (List ℕ) → Told → Type 0
  -- no reason stands against a job with these texts
  pub IsAccepted : Job → List (List ℕ) → Type 0
  -- where none does, the command may end with this status
  pub EndsWith : Job → List (List ℕ) → ℕ → Type 0

-- a command's entry: it isn't there yet, or it has these rules
pub data Entry : Type 1 where
  Unbuilt : Entry
  Built : CommandRules → Entry

-- one of these answers, without a search
abbrev pub Plainly : (Answer → Type 0) → Told → Type 0
Plainly IsAnswer told = (answer : Answer) × IsAnswer answer × (told ≡ plainly answer)

abbrev pub relax_rules : CommandRules
relax_rules = record {
  files = Domain ∷ Problem ∷ [];
  IsAnswer = λ job texts told. OfPair (λ d p. Plainly (relax.IsAnswer d p) told) texts;
  IsAccepted = λ job texts. OfPair relax.IsAccepted texts;
  EndsWith = λ job texts status. Contains relax.statuses status;
}

abbrev pub validate_rules : CommandRules
validate_rules = record {
  files = Domain ∷ Problem ∷ Plan ∷ [];
  IsAnswer = λ job texts told. OfThree (λ d p q. Plainly (validate.IsAnswer d p q) told) texts;
  IsAccepted = λ job texts. OfThree validate.IsAccepted texts;
  EndsWith = λ job texts status. Contains validate.statuses status;
}

-- status 0 claims that no plan of the pair exists
abbrev pub certify_rules : CommandRules
certify_rules = record {
  files = Domain ∷ Problem ∷ Certificate ∷ [];
  IsAnswer = λ job texts told. OfThree (λ d p c. Plainly (certify.IsAnswer d p c) told × Certifies d p c told.status) texts;
  IsAccepted = λ job texts. OfThree certify.IsAccepted texts;
  EndsWith = λ job texts status. OfThree (λ d p c. Contains certify.statuses status × Certifies d p c status) texts;
}

-- nothing of the certificate is checked
abbrev pub upgrade_rules : CommandRules
upgrade_rules = record {
  files = Domain ∷ Problem ∷ Certificate ∷ [];
  IsAnswer = λ job texts told. OfThree (λ d p c. Plainly (upgrade.IsAnswer d p c) told) texts;
  IsAccepted = λ job texts. OfThree upgrade.IsAccepted texts;
  EndsWith = λ job texts status. Contains upgrade.statuses status;
}

-- a search with so many expansions at most is told in this form
abbrev pub Finds : TextOf → ℕ → Told → List ℕ → List ℕ → Type 0
Finds IsText limit told domain problem =
    TellsSearch IsText (plan.IsFound domain problem limit) (IsRefusal domain problem) told

abbrev pub plan_rules : CommandRules
plan_rules = record {
  files = Domain ∷ Problem ∷ [];
  IsAnswer = λ job texts told. OfPair (Finds IsTextOf job.limit told) texts;
  IsAccepted = λ job texts. OfPair tasks.IsAccepted texts;
  EndsWith = λ job texts status. OfPair (λ d p. SearchEnds d p job.limit status) texts;
}

-- no file is read: the texts of domain and problem are generated
abbrev pub generate_rules : CommandRules
generate_rules = record {
  files = [];
  IsAnswer = λ job texts told. OfNone (Finds (IsSummaryOf job.size) job.limit told domain_text (problem_text job.size)) texts;
  IsAccepted = λ job texts. OfNone (tasks.IsAccepted domain_text (problem_text job.size)) texts;
  EndsWith = λ job texts status. OfNone (SearchEnds domain_text (problem_text job.size) job.limit status) texts;
}

abbrev pub entry_of : Command → Entry
entry_of command.Plan = Built plan_rules
entry_of command.Relax = Built relax_rules
entry_of command.Validate = Built validate_rules
entry_of command.Generate = Built generate_rules
entry_of command.Certify = Built certify_rules
entry_of command.Upgrade = Built upgrade_rules
entry_of command.Adl = Unbuilt
entry_of command.Expand = Unbuilt
entry_of command.Optimal = Unbuilt
entry_of command.CertifyCost = Unbuilt
entry_of command.Steps = Unbuilt
entry_of command.Look = Unbuilt

-- the files of a command that is there
abbrev pub files_in : Entry → Option (List Source)
files_in Unbuilt = None
files_in (Built rules) = Some rules.files

-- as many texts as a command reads files, none of which is too large
abbrev pub FitFiles : Option (List Source) → List (List ℕ) → Type 0
FitFiles None texts = ⊥
FitFiles (Some files) texts = AllZip (λ file text. length text ≤ most_bytes file) files texts
