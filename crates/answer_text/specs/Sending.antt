-- Texts that are written piece by piece.
use Rattle.std.specs.Prelude.{ℕ, ◌≡◌, ◌<◌, List, Option, Some, Result, MatchResult, length, take}
use Rattle.std.specs.Io.KnownBytes.{Appends, Keeps}
use Rattle.edge_io.specs.Causes.{Rose}
use Rattle.search_runs.specs.declared.answers.Answer.{Answer}
use Rattle.search_records.specs.Records.{answer_in}
use Rattle.search_records.specs.declared.record.Record.{Record}
use Rattle.answer_text.specs.Texts.{IsTextOf, summary_line}
use Rattle.answer_text.specs.declared.faults.SendFault.{SendFault}
use Rattle.answer_text.specs.declared.faults.SendFault.TheVariants as fault
use Rattle.answer_text.specs.declared.faults.Unsent.{Unsent}
use Rattle.answer_text.specs.declared.faults.Unsent.TheVariants as unsent

-- ---- how much is written

-- a front of the text, but not all of it, was written behind what was there before
abbrev pub IsCut : Option (List ℕ) → Option (List ℕ) → List ℕ → Type 0
IsCut old new text = (n : ℕ) × (n < length text) × Appends old new (take n text)

-- so was a front of it that isn't empty
abbrev pub IsCutWithin : Option (List ℕ) → Option (List ℕ) → List ℕ → Type 0
IsCutWithin old new text = (n : ℕ) × (0 < n) × (n < length text) × Appends old new (take n text)

-- not all was written where the sink failed; where memory lacked nothing was, or a part
abbrev pub IsUnsent : Option (List ℕ) → Option (List ℕ) → List ℕ → Unsent → Type 0
IsUnsent old new text unsent.Sink = IsCut old new text
IsUnsent old new text unsent.NoMemory = Keeps old new
IsUnsent old new text unsent.CutShort = IsCutWithin old new text

-- the whole text was written, or as much of it as the fault says
abbrev pub IsSent : {T : Type 0} → Option (List ℕ) → Option (List ℕ) → List ℕ → Result T Unsent → Type 0
IsSent old new text result = MatchResult result (λ _. Appends old new text) (IsUnsent old new text)

-- the whole text was written, or a front of it that isn't all
abbrev pub IsWritten : {T : Type 0} → Option (List ℕ) → Option (List ℕ) → List ℕ → Result T SendFault → Type 0
IsWritten old new text result = MatchResult result (λ _. Appends old new text) (λ _. IsCut old new text)

-- ---- whose fault it is

-- the fault, however much is written
abbrev pub fault_of : Unsent → SendFault
fault_of unsent.Sink = fault.Sink
fault_of unsent.NoMemory = fault.NoMemory
fault_of unsent.CutShort = fault.NoMemory

-- a fault of the sink was counted where it failed, and else none was
abbrev pub IsCause : ℕ → ℕ → SendFault → Type 0
IsCause before now fault.Sink = Rose before now
IsCause before now fault.NoMemory = now ≡ before

abbrev pub IsUnsentCause : ℕ → ℕ → Unsent → Type 0
IsUnsentCause before now e = IsCause before now (fault_of e)

-- ---- the texts of records

-- the text of the record's answer was sent, or as much of it as the fault says
abbrev pub IsAnswerSent : {T : Type 0} → Record → Option (List ℕ) → Option (List ℕ) → Result T Unsent → Type 0
IsAnswerSent r old new result =
    (a : Answer) × (text : List ℕ) × (answer_in r ≡ Some a) × IsTextOf r a text × IsSent old new text result

-- it was written, or a front of it that isn't all
abbrev pub IsAnswerWritten : {T : Type 0} → Record → Option (List ℕ) → Option (List ℕ) → Result T SendFault → Type 0
IsAnswerWritten r old new result =
    (a : Answer) × (text : List ℕ) × (answer_in r ≡ Some a) × IsTextOf r a text × IsWritten old new text result

-- the line of the record of a generated task was sent, or as much of it as the fault says
abbrev pub IsSummarySent : {T : Type 0} → ℕ → Record → Option (List ℕ) → Option (List ℕ) → Result T Unsent → Type 0
IsSummarySent size r old new result =
    (a : Answer) × (answer_in r ≡ Some a) × IsSent old new (summary_line size r a) result

-- it was written, or a front of it that isn't all
abbrev pub IsSummaryWritten : {T : Type 0} → ℕ → Record → Option (List ℕ) → Option (List ℕ) → Result T SendFault → Type 0
IsSummaryWritten size r old new result =
    (a : Answer) × (answer_in r ≡ Some a) × IsWritten old new (summary_line size r a) result
