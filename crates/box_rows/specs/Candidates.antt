-- The ends at which an interval of a fluent can stop short of infinity.
use Rattle.std.specs.Prelude.{ℕ, ◌≡◌, ◌≤◌, ◌<◌, ◌⊎◌, ◌&&◌, Bool, true, nat_le, List, Option, Some, None, All, IsTrue, length, slice_get, slice_index_or}
use Rattle.std.specs.List.{IsAmong}
use Rattle.num_ends.specs.Decimal.{Decimal, trimmed}
use Rattle.num_ends.specs.Range.{in_range}
use Rattle.num_ends.specs.declared.ends.End.{End}
use Rattle.num_ends.specs.declared.ends.End.TheVariants.{NegInf, Excl, Incl, PosInf}
use Rattle.ground_task.specs.declared.raw.GCond.{GCond}
use Rattle.ground_task.specs.declared.raw.Change.{Change}
use Rattle.ground_task.specs.declared.raw.Change.TheVariants.{Add, Set}
use Rattle.ground_task.specs.declared.raw.Ground.{Ground}
use Rattle.ground_task.specs.Tasks.{TaskValue}
use Rattle.box_model.specs.Caps.{IsCap}
use Rattle.box_model.specs.Demands.{constant_of, covers, infinity}
use Rattle.box_model.specs.declared.caps.Side.{Side}

-- a finite end, trimmed, has at most this many places, and is in range at its own
abbrev pub is_end_for : ℕ → End → Bool
is_end_for q NegInf = true
is_end_for q (Excl d) = nat_le (trimmed d).p q && in_range (trimmed d).n
is_end_for q (Incl d) = nat_le (trimmed d).p q && in_range (trimmed d).n
is_end_for q PosInf = true

-- the constant that a change assigns
abbrev pub assigned_constant : Change → Option Decimal
assigned_constant (Add e) = None
assigned_constant (Set e) = constant_of e

-- the change assigns a constant, at which this end is closed
pub record IsAssigned (change : Change) (end : End) : Type 0 where
  pub constant : Decimal
  pub assigned : assigned_constant change ≡ Some constant
  pub closed : end ≡ Incl constant

-- the end caps the change on this side
pub record IsCapOn (places : List ℕ) (side : Side) (pre : GCond) (x : ℕ) (change : Change) (end : End) : Type 0 where
  pub cap : IsCap places pre x change end
  pub on : cap.side ≡ side

-- where a change of x under a precondition stops on this side: at the constant that it assigns, or at its cap
abbrev pub IsStop : List ℕ → Side → GCond → ℕ → Change → End → Type 0
IsStop places side pre x change end = IsAssigned change end ⊎ IsCapOn places side pre x change end

-- the end that a change demands on this side where it demands one: where it stops, or else the infinite end
abbrev pub IsDemandedEnd : List ℕ → Side → GCond → ℕ → Change → End → Type 0
IsDemandedEnd places side pre x change end =
    IsStop places side pre x change end ⊎ (((other : End) → IsStop places side pre x change other → ⊥) × (end ≡ infinity side))

-- the numeric effect at a place of an action of the task: a change of x
pub record IsEffect (t : TaskValue) (action effect : ℕ) (performed : Ground) (x : ℕ) (change : Change) : Type 0 where
  pub is_action : slice_get t.raw.actions action ≡ Some performed
  pub is_effect : slice_get performed.nums effect ≡ Some (x, change)

-- a change of x by some action of the task stops at this end
pub record IsCandidate (t : TaskValue) (side : Side) (x : ℕ) (end : End) : Type 0 where
  pub action : ℕ
  pub effect : ℕ
  pub performed : Ground
  pub change : Change
  pub changes : IsEffect t action effect performed x change
  pub stops : IsStop t.places side performed.pre x change end

-- one of these ends is neither further out than this one nor less far
pub record HasEqual (side : Side) (ends : List End) (end : End) : Type 0 where
  pub member : End
  pub among : IsAmong ends member
  pub as_far : IsTrue (covers side member end)
  pub no_further : IsTrue (covers side end member)

-- the ends at which changes of x stop on this side, each no less far out than those before it
pub record AreCandidates (t : TaskValue) (side : Side) (x : ℕ) (ends : List End) : Type 0 where
  pub outward : (i j : ℕ) → i ≤ j → j < length ends → IsTrue (covers side (slice_index_or ends j (infinity side)) (slice_index_or ends i (infinity side)))
  pub each : All (IsCandidate t side x) ends
  pub every : (end : End) → IsCandidate t side x end → HasEqual side ends end
  pub fits : All (λ end. IsTrue (is_end_for (slice_index_or t.places x 0) end)) ends
