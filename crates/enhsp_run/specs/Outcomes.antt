-- Internal: what an answer tells before it is sent, and how a call ended that sent one.
use Rattle.std.specs.Prelude.{ℕ, ◌≡◌, ◌≤◌, ⊤, List, Option, Some, Result, Ok, Err}
use Rattle.std.specs.Io.KnownBytes.{Appends}
use Rattle.answer_text.specs.Texts.{HasText, IsCertOf, IsTextOf}
use Rattle.edge_io.specs.Causes.{Rose}
use Rattle.enhsp_words.specs.Jobs.{job_of}
use Rattle.enhsp_words.specs.declared.job.Job.{Job}
use Rattle.pair_text.specs.declared.refusals.PairFault.{PairFault}
use Rattle.pair_text.specs.declared.refusals.PairFault.TheVariants.{Refused, NoMemory}
use Rattle.run_answers.specs.Refused.{refused}
use Rattle.search_records.specs.Records.{IsLegalRecord}
use Rattle.upgrade_command.specs.Answers.{upgraded}
use Rattle.enhsp_run.specs.Ends.{FailsAtSink, LacksMemory}
use Rattle.enhsp_run.specs.Told.{TextOf, IsSummaryOf, TellsRecord, Told, ended, plainly}
use Rattle.enhsp_run.specs.declared.ended.Ended.{Ended}
use Rattle.enhsp_run.specs.declared.outcomes.Form.{Form}
use Rattle.enhsp_run.specs.declared.outcomes.Form.TheVariants.{Whole, Summary}
use Rattle.enhsp_run.specs.declared.outcomes.Outcome.{Outcome}
use Rattle.enhsp_run.specs.declared.outcomes.Outcome.TheVariants.{Written, Found, Upgraded}

-- the texts of a form
abbrev pub text_in : Form → TextOf
text_in Whole = IsTextOf
text_in (Summary size) = IsSummaryOf size

-- what is told by an outcome
abbrev pub Tells : Outcome → Told → Type 0
Tells (Written answer) told = told ≡ plainly answer
Tells (Found form r) told = TellsRecord (text_in form) r told
Tells (Upgraded c) told = told ≡ plainly (upgraded c.task c.cert)

-- a record can be sent that is legal and has an answer with a text, and a certificate that is its task's
abbrev pub CanBeSent : Outcome → Type 0
CanBeSent (Written answer) = ⊤
CanBeSent (Found form r) = IsLegalRecord r × HasText r
CanBeSent (Upgraded c) = IsCertOf c.task c.cert

-- its text is made as it is written
abbrev pub IsMade : Outcome → Type 0
IsMade (Written answer) = ⊥
IsMade (Found form r) = ⊤
IsMade (Upgraded c) = ⊤

-- the outcome can be sent, and all that it tells may be told
pub record CanTell (May : Told → Type 0) (outcome : Outcome) : Type 0 where
  pub sent : CanBeSent outcome
  pub tells : (told : Told) → Tells outcome told → May told

-- what comes of this fault
abbrev pub IsFaultOutcome : PairFault → Outcome → Type 0
IsFaultOutcome (Refused refusal) outcome = outcome ≡ Written (refused refusal)
IsFaultOutcome NoMemory outcome = ⊥

-- what comes of a call that gave this, where a value is told by this outcome
abbrev pub IsOutcomeOf : {A : Type 0} → (A → Outcome) → Result A PairFault → Outcome → Type 0
IsOutcomeOf told_by (Ok a) outcome = outcome ≡ told_by a
IsOutcomeOf told_by (Err fault) outcome = IsFaultOutcome fault outcome

-- some words ask for this job
abbrev pub IsJob : Job → Type 0
IsJob job = (words : List (List ℕ)) × (job_of words ≡ Some job)

-- A call ended that may tell this, over the bytes that its sink holds and the count of the sink's faults, each before and after.
pub record IsEnd (May : Told → Type 0) (before after : Option (List ℕ)) (faults faults_after : ℕ) (e : Ended) : Type 0 where
  pub known : e.status ≤ 8
  pub answered : e.status ≤ 6 → (told : Told) × May told × (e ≡ ended told) × Appends before after told.text × (faults_after ≡ faults)
  pub sink_fault : e.status ≡ 7 → Rose faults faults_after
  pub cut : e.status ≡ 7 → FailsAtSink May before after e.found
  pub no_memory : e.status ≡ 8 → (faults_after ≡ faults) × LacksMemory May before after e.found

-- one thing alone is told, or nothing
abbrev pub Only : Told → Told → Type 0
Only told other = other ≡ told

abbrev pub Nothing : Told → Type 0
Nothing told = ⊥
