-- Certificates that may be written, and the boxes that are read back.
use Rattle.std.specs.Prelude.{ℕ, ◌≡◌, ◌≤◌, All, List, Some, length, map}
use Rattle.num_ends.specs.Decimal.{InRange}
use Rattle.num_ends.specs.Ends.{Interval}
use Rattle.ground_task.specs.Tasks.{IsStateOf, TaskValue}
use Rattle.box_model.specs.Boxes.{IsBoxOf}
use Rattle.box_model.specs.Hold.{trimmed_end}
use Rattle.box_model.specs.declared.state_box.StateBox.{StateBox}
use Rattle.cert_text.specs.declared.cert.Cert.{Cert}
use Rattle.search_runs.specs.declared.answers.Answer.TheVariants.{Exhausted}
use Rattle.search_records.specs.Records.{IsLegal, answer_in}
use Rattle.search_records.specs.declared.record.Record.{Record}
use Rattle.answer_text.specs.Texts.{IsTextOf}

-- the same interval, its ends with the fewest places
abbrev pub trimmed_interval : Interval → Interval
trimmed_interval i = (trimmed_end i.0, trimmed_end i.1)

-- the same box, likewise
abbrev pub trimmed_box : StateBox → StateBox
trimmed_box b = record { facts = b.facts; fluents = map trimmed_interval b.fluents }

-- Its boxes and states are those of the task, each number of a state is in range, and there are no more of either than are
-- read.
pub record IsWritable (t : TaskValue) (cert : Cert) : Type 0 where
  pub boxes : All (IsBoxOf t) cert.boxes
  pub states : All (IsStateOf t) cert.states
  pub in_range : All (λ s. All InRange s.values) cert.states
  pub few_boxes : length cert.boxes ≤ 40000
  pub few_states : length cert.states ≤ 500000

-- the text of a record of a search of the task, by so many workers and with such a limit, whose answer is that no plan exists
pub record IsExhaustedText (t : TaskValue) (text : List ℕ) : Type 0 where
  pub limit : ℕ
  pub workers : ℕ
  pub source : Record
  pub legal : IsLegal t limit workers source
  pub exhausted : answer_in source ≡ Some Exhausted
  pub is_text : IsTextOf source Exhausted text
