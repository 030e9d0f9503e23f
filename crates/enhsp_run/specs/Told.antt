-- What a call of the program tells.
use Rattle.std.specs.Prelude.{ℕ, ◌≡◌, List, Option, Some, None}
use Rattle.answer_text.specs.Texts.{status_of, summary_line}
use Rattle.pair_text.specs.declared.refusals.Refusal.{Refusal}
use Rattle.run_answers.specs.Refused.{refused}
use Rattle.run_answers.specs.declared.answers.Answer as plain
use Rattle.search_records.specs.Records.{answer_in}
use Rattle.search_records.specs.declared.record.Record.{Record}
use Rattle.search_runs.specs.declared.answers.Answer.{Answer}
use Rattle.enhsp_run.specs.declared.ended.Ended.{Ended}

-- the status that it ends with, the text that it writes, and the record of its search, if there was one
pub record Told : Type 0 where
  pub status : ℕ
  pub text : List ℕ
  pub found : Option Record

-- an answer without a search
abbrev pub plainly : plain.Answer → Told
plainly answer = record { status = answer.status; text = answer.text; found = None }

-- how a call ends that told this to the end
abbrev pub ended : Told → Ended
ended told = record { status = told.status; found = told.found }

-- ---- searches

-- which texts tell an answer of a record
abbrev pub TextOf : Type 1
TextOf = Record → Answer → List ℕ → Type 0

-- the line on the search of a generated task of this size
abbrev pub IsSummaryOf : ℕ → TextOf
IsSummaryOf size r answer text = text ≡ summary_line size r answer

-- the answer of this record is told, and the record is handed back
pub record TellsRecord (IsText : TextOf) (r : Record) (told : Told) : Type 0 where
  pub answer : Answer
  pub is_answer : answer_in r ≡ Some answer
  pub status : told.status ≡ status_of answer
  pub text : IsText r answer told.text
  pub found : told.found ≡ Some r

-- What a command tells that searches: the answer of the record that it finds, or a refusal.
pub data TellsSearch (IsText : TextOf) (IsFound : Record → Type 0) (IsRefusal : Refusal → Type 0) : Told → Type 0 where
  found : (r : Record) (told : Told) → IsFound r → TellsRecord IsText r told → TellsSearch IsText IsFound IsRefusal told
  refusal : (r : Refusal) → IsRefusal r → TellsSearch IsText IsFound IsRefusal (plainly (refused r))
