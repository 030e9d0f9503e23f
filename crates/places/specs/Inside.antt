-- For contracts inside this crate alone: how counts of places rise to the least ones.
use Rattle.std.specs.Prelude.{ℕ, ◌≡◌, ◌≤◌, ◌<◌, ◌-◌, Bool, true, false, List, Some, IsTrue, All, length, min, nat_lt, slice_get, slice_index_or, slice_set, sum_by, if◌then◌else◌}
use Rattle.num_ends.specs.Decimal.{Decimal, origin, trimmed}
use Rattle.ground_task.specs.declared.raw.Change.{Change}
use Rattle.ground_task.specs.declared.raw.GExpr.{GExpr}
use Rattle.ground_task.specs.declared.raw.Ground.{Ground}
use Rattle.ground_task.specs.declared.raw.RawTask.{RawTask}
use Rattle.ground_task.specs.Placed.{has_few_places, places_of}
use Rattle.ground_task.specs.Valid.{right_side}
use Rattle.places.specs.Least.{IsEnough}

-- the places of a first value, cut at 10
abbrev pub first_count : Decimal → ℕ
first_count d = min 10 (trimmed d).p

-- the places that an expression gives a fluent, cut at 10
abbrev pub needed : List ℕ → GExpr → ℕ
needed counts e = min 10 (places_of counts e)

-- a fluent has fewer places than an expression gives it
abbrev pub is_short : List ℕ → ℕ → GExpr → Bool
is_short counts x e = nat_lt (slice_index_or counts x 0) (needed counts e)

-- then it is given as many
abbrev pub raised : List ℕ → ℕ → GExpr → List ℕ
raised counts x e = if is_short counts x e then slice_set counts x (needed counts e) else counts

-- no change of these is short of places
abbrev pub AreMet : List ℕ → List (ℕ × Change) → Type 0
AreMet counts effects = All (λ effect. needed counts (right_side effect.1) ≤ slice_index_or counts effect.0 0) effects

-- each count is at most that of the other list
abbrev pub LiesBelow : List ℕ → List ℕ → Type 0
LiesBelow counts others = (x : ℕ) → slice_index_or counts x 0 ≤ slice_index_or others x 0

-- by how much counts up to 10 may rise
abbrev pub room_of : List ℕ → ℕ
room_of counts = sum_by (λ c. 10 - c) counts

-- counts rose, or none of them did, and they stay below all that are enough
pub record IsRise (raw : RawTask) (old new : List ℕ) (rose : Bool) : Type 0 where
  pub as_many : length new ≡ length old
  pub cut : All (λ c. c ≤ 10) old → All (λ c. c ≤ 10) new
  pub higher : LiesBelow old new
  pub least : (others : List ℕ) → IsEnough raw others → LiesBelow old others → LiesBelow new others
  pub falls : rose ≡ true → room_of new < room_of old
  pub same : rose ≡ false → new ≡ old

-- counts on the way from the first values to the least ones
pub record IsUnderLeast (raw : RawTask) (counts : List ℕ) : Type 0 where
  pub a_count_each : length counts ≡ length raw.fluents
  pub cut : All (λ c. c ≤ 10) counts
  pub values : (x : ℕ) → x < length raw.fluents → min 10 (trimmed (slice_index_or raw.values x origin)).p ≤ slice_index_or counts x 0
  pub least : (others : List ℕ) → IsEnough raw others → LiesBelow counts others

-- the first action with a side of more than 18 places in its precondition
pub record IsFirstDeepAction (raw : RawTask) (counts : List ℕ) (number : ℕ) : Type 0 where
  pub action : Ground
  pub is : slice_get raw.actions number ≡ Some action
  pub deep : has_few_places counts action.pre ≡ false
  pub first : (earlier : ℕ) (other : Ground) → earlier < number → slice_get raw.actions earlier ≡ Some other → IsTrue (has_few_places counts other.pre)
