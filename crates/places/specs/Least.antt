-- The least places with which no value of a task is ever rounded.
use Rattle.std.specs.Prelude.{ℕ, ◌≡◌, ◌≤◌, ◌<◌, List, false, IsTrue, All, Some, length, min, slice_get, slice_index_or, ⊤}
use Rattle.num_ends.specs.Decimal.{origin, trimmed}
use Rattle.ground_task.specs.declared.raw.Ground.{Ground}
use Rattle.ground_task.specs.declared.raw.RawTask.{RawTask}
use Rattle.ground_task.specs.declared.faults.TaskFault.TheVariants as task_fault
use Rattle.ground_task.specs.Valid.{right_side}
use Rattle.ground_task.specs.Placed.{IsPlaced, has_few_places, places_of}
use Rattle.ground_task.specs.Tasks.{IsCause}
use Rattle.places.specs.declared.faults.PlacesFault.{PlacesFault}
use Rattle.places.specs.declared.faults.PlacesFault.TheVariants as places_fault

-- a count for each fluent, at least that of its first value and that of each right-hand side of a change of it, all of them cut at 10
pub record IsEnough (raw : RawTask) (counts : List ℕ) : Type 0 where
  pub a_count_each : length counts ≡ length raw.fluents
  pub values : (x : ℕ) → x < length raw.fluents → min 10 (trimmed (slice_index_or raw.values x origin)).p ≤ slice_index_or counts x 0
  pub changes : All (λ a. All (λ effect. min 10 (places_of counts (right_side effect.1)) ≤ slice_index_or counts effect.0 0) a.nums) raw.actions

-- such counts, of which each is at most that of any other such list
pub record IsLeastPlaces (raw : RawTask) (counts : List ℕ) : Type 0 where
  pub enough : IsEnough raw counts
  pub least : (others : List ℕ) → IsEnough raw others → (x : ℕ) → x < length raw.fluents → slice_index_or counts x 0 ≤ slice_index_or others x 0

-- ---- why there are none

-- the fluent is the first that needs more than 9 places
pub record IsDeepFluent (raw : RawTask) (counts : List ℕ) (x : ℕ) : Type 0 where
  pub known : x < length raw.fluents
  pub deep : 9 < slice_index_or counts x 0
  pub first : (y : ℕ) → y < x → slice_index_or counts y 0 ≤ 9

-- the action is the first with a side of more than 18 places
pub record IsDeepAction (raw : RawTask) (counts : List ℕ) (number : ℕ) : Type 0 where
  pub few : All (λ p. p ≤ 9) counts
  pub action : Ground
  pub is : slice_get raw.actions number ≡ Some action
  pub deep : has_few_places counts action.pre ≡ false
  pub first : (earlier : ℕ) (other : Ground) → earlier < number → slice_get raw.actions earlier ≡ Some other → IsTrue (has_few_places counts other.pre)

-- the goal has such a side, and no action has
pub record IsDeepGoal (raw : RawTask) (counts : List ℕ) : Type 0 where
  pub few : All (λ p. p ≤ 9) counts
  pub actions : All (λ a. IsTrue (has_few_places counts a.pre)) raw.actions
  pub deep : has_few_places counts raw.goal ≡ false

-- the first reason, with the least counts
abbrev pub IsPlacesFault : RawTask → PlacesFault → Type 0
IsPlacesFault raw (places_fault.Fluent x) = (counts : List ℕ) × IsLeastPlaces raw counts × IsDeepFluent raw counts x
IsPlacesFault raw (places_fault.Action number) = (counts : List ℕ) × IsLeastPlaces raw counts × IsDeepAction raw counts number
IsPlacesFault raw places_fault.Goal = (counts : List ℕ) × IsLeastPlaces raw counts × IsDeepGoal raw counts
IsPlacesFault raw (places_fault.Range x) =
    (counts : List ℕ) × IsLeastPlaces raw counts × IsPlaced raw counts × IsCause raw counts (task_fault.Range x)
IsPlacesFault raw places_fault.NoMemory = ⊤
