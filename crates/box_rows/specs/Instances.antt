-- A task, its supporters, and a state of it.
use Rattle.std.specs.Prelude.{ℕ, ◌≡◌, ◌<◌, ◌+◌, ◌^◌, All, IsTrue, length, pos, slice_index_or}
use Rattle.num_ends.specs.Decimal.{InRange}
use Rattle.ground_task.specs.Placed.{IsPlaced}
use Rattle.ground_task.specs.States.{StateValue}
use Rattle.ground_task.specs.Tasks.{TaskValue, IsStateOf}
use Rattle.ground_task.specs.Valid.{IsValid}
use Rattle.box_model.specs.declared.caps.Side.{Side}
use Rattle.box_rows.specs.Candidates.{is_end_for}
use Rattle.box_rows.specs.Rules.{ends_of, IsSupportersOf}
use Rattle.box_rows.specs.Tables.{SupportersValue}

-- a task with its supporters, and a state of it
pub record IsInstance (t : TaskValue) (sup : SupportersValue) (s : StateValue) : Type 0 where
  pub valid : IsValid t.raw
  pub placed : IsPlaced t.raw t.places
  pub a_state : IsStateOf t s
  pub in_range : (x : ℕ) → x < length t.raw.fluents → InRange (slice_index_or s.values x (pos 0))
  pub supporters : IsSupportersOf t sup

-- what reading a row as a box asks: sizes, numbers in range, and ends that the fluents may have
pub record IsReadable (t : TaskValue) (sup : SupportersValue) (s : StateValue) : Type 0 where
  pub uppers_each : length sup.uppers ≡ length t.raw.fluents
  pub lowers_each : length sup.lowers ≡ length t.raw.fluents
  pub few_ends : (side : Side) (x : ℕ) → x < length t.raw.fluents → length (ends_of sup side x) < 2 ^ 32
  pub fits : (side : Side) (x : ℕ) → x < length t.raw.fluents → All (λ end. IsTrue (is_end_for (slice_index_or t.places x 0) end)) (ends_of sup side x)
  pub few_rules : length sup.rules < 2 ^ 32
  pub words : All (λ r. r.word < length t.raw.facts + (length t.raw.fluents + length t.raw.fluents)) sup.rules
  pub a_truth_each : length s.facts ≡ length t.raw.facts
  pub a_number_each : length s.values ≡ length t.raw.fluents
  pub in_range : (x : ℕ) → x < length t.raw.fluents → InRange (slice_index_or s.values x (pos 0))
