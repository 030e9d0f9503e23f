-- The caps of changes: how far a change by a constant moves a fluent where its action's precondition bounds it.
use Rattle.std.specs.Prelude.{ℕ, ◌≡◌, List, Option, Some, None, All, IsTrue, pos, int_lt, if◌then◌else◌, slice_get, slice_index_or}
use Rattle.std.specs.List.{IsAmong}
use Rattle.num_ends.specs.Decimal.{Decimal}
use Rattle.num_ends.specs.declared.ends.End.{End}
use Rattle.ground_task.specs.declared.raw.GCond.{GCond}
use Rattle.ground_task.specs.declared.raw.Change.{Change}
use Rattle.ground_task.specs.declared.raw.Change.TheVariants.{Add, Set}
use Rattle.ground_task.specs.declared.raw.Ground.{Ground}
use Rattle.ground_task.specs.Tasks.{TaskValue}
use Rattle.box_model.specs.Demands.{constant_of, covers, moved_ends}
use Rattle.box_model.specs.declared.caps.Side.{Side}
use Rattle.box_model.specs.declared.caps.Side.TheVariants.{Upper, Lower}

-- one of these ends, which each of them covers
pub record IsTightest (side : Side) (ends : List End) (end : End) : Type 0 where
  pub one_of : IsAmong ends end
  pub covered : All (λ other. IsTrue (covers side other end)) ends

-- the side to which a change by a constant moves a fluent
abbrev pub side_of : Decimal → Option Side
side_of c = if int_lt (pos 0) c.n then Some Upper else (if int_lt c.n (pos 0) then Some Lower else None)

-- the constant by which a change lets a fluent grow
abbrev pub growth_of : Change → Option Decimal
growth_of (Add e) = constant_of e
growth_of (Set e) = None

-- The cap of a change of x under a precondition: where it adds a constant c other than 0, the tightest of the ends
-- k + c that the bounds k give on the side to which c moves x.
pub record IsCap (places : List ℕ) (pre : GCond) (x : ℕ) (change : Change) (end : End) : Type 0 where
  pub constant : Decimal
  pub side : Side
  pub grows : growth_of change ≡ Some constant
  pub moves : side_of constant ≡ Some side
  pub tightest : IsTightest side (moved_ends side (slice_index_or places x 0) x (Some constant) pre) end

-- the cap of an effect, by the number of its action and its place among the numeric effects there
pub record IsEffectCap (t : TaskValue) (action effect : ℕ) (end : End) : Type 0 where
  pub performed : Ground
  pub change : ℕ × Change
  pub is_action : slice_get t.raw.actions action ≡ Some performed
  pub is_effect : slice_get performed.nums effect ≡ Some change
  pub cap : IsCap t.places performed.pre change.0 change.1 end
