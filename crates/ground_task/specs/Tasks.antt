-- A task as contracts see it, its states, and its initial state.
use Rattle.std.specs.Prelude.{ℕ, ℤ, ◌≡◌, ◌<◌, List, false, IsTrue, length, map, slice_index_or, ◌==◌, ⊤, Bool}
use Rattle.std.specs.List.{list_any, range_with_len}
use Rattle.num_ends.specs.Decimal.{Decimal, number_at, origin, is_same_value, trimmed, InRange}
use Rattle.ground_task.specs.declared.raw.RawTask.{RawTask}
use Rattle.ground_task.specs.declared.faults.TaskFault.{TaskFault}
use Rattle.ground_task.specs.declared.faults.TaskFault.TheVariants.{Range, NoMemory}
use Rattle.ground_task.specs.Meaning.{fluent_value}
use Rattle.ground_task.specs.Placed.{IsPlaced}
use Rattle.ground_task.specs.States.{StateValue}
use Rattle.ground_task.specs.Valid.{IsValid}

-- a task: its data, and the decimal places of each fluent
pub record TaskValue : Type 0 where
  pub raw : RawTask
  pub places : List ℕ

-- a state has as many facts and values as the task
pub record IsStateOf (t : TaskValue) (s : StateValue) : Type 0 where
  pub a_truth_each : length s.facts ≡ length t.raw.facts
  pub a_number_each : length s.values ≡ length t.raw.fluents

-- the fact of this number is listed
abbrev pub is_listed : List ℕ → ℕ → Bool
is_listed facts f = list_any (λ g. g == f) facts

-- the state at the start: the facts listed are true, and each fluent has its first value
pub record IsInitialState (t : TaskValue) (s : StateValue) : Type 0 where
  pub sizes : IsStateOf t s
  pub facts : (f : ℕ) → f < length t.raw.facts → slice_index_or s.facts f false ≡ is_listed t.raw.true_facts f
  pub values : (x : ℕ) → x < length t.raw.fluents → IsTrue (is_same_value (fluent_value t.places s x) (slice_index_or t.raw.values x origin))

-- ---- the initial state by its numbers

-- the number of a fluent's first value at the fluent's places
abbrev pub first_number : List ℕ → List Decimal → ℕ → ℤ
first_number places values x =
    number_at (slice_index_or places x 0) (trimmed (slice_index_or values x origin))

-- the facts listed as true, and each first value at its fluent's places
abbrev pub first_state : RawTask → List ℕ → StateValue
first_state raw places =
    record {
      facts = map (is_listed raw.true_facts) (range_with_len 0 (length raw.facts));
      values = map (first_number places raw.values) (range_with_len 0 (length raw.fluents));
    }

-- each first value of the fluents below this number is in range at its places
abbrev pub AreFirstInRange : List ℕ → List Decimal → ℕ → Type 0
AreFirstInRange places values count = (x : ℕ) → x < count → InRange (first_number places values x)

-- why data with places gives no task: the fluent is the first whose first value leaves the range at its places
abbrev pub IsCause : RawTask → List ℕ → TaskFault → Type 0
IsCause raw places (Range x) =
    (x < length raw.fluents) × (InRange (first_number places raw.values x) → ⊥) × AreFirstInRange places raw.values x
IsCause raw places NoMemory = ⊤

-- what a task keeps
pub record IsTask (raw : RawTask) (places : List ℕ) (first : StateValue) : Type 0 where
  pub valid : IsValid raw
  pub placed : IsPlaced raw places
  pub is_first : first ≡ first_state raw places
