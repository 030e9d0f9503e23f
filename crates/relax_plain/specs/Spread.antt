-- Steps that widen a box and mark the actions whose demands may have changed by that.
use Rattle.std.specs.Prelude.{ℕ, ◌≡◌, ◌<◌, ◌⊎◌, Bool, true, false, List, Some, slice_get, length, IsTrue}
use Rattle.ground_task.specs.declared.raw.Ground.{Ground}
use Rattle.ground_task.specs.Tasks.{TaskValue}
use Rattle.box_model.specs.Boxes.{fact_in, fluent_in, IsBoxOf, LiesWithin}
use Rattle.box_model.specs.Demands.{is_closed}
use Rattle.box_model.specs.Hold.{may_hold}
use Rattle.box_model.specs.declared.state_box.StateBox.{StateBox}
use Rattle.relax_plain.specs.Marks.{is_marked}
use Rattle.relax_plain.specs.Potential.{potential}
use Rattle.relax_plain.specs.Reads.{asks, depends_on_fluent}

-- the new box is around the old one, and lies within each closed box of the task that is
pub record IsGrown (t : TaskValue) (old new : StateBox) : Type 0 where
  pub a_box : IsBoxOf t new
  pub wider : LiesWithin old new
  pub least : (c : StateBox) → IsBoxOf t c → LiesWithin old c → IsTrue (is_closed t c) → LiesWithin new c

-- the boxes are the same in what an action's demands depend on
pub record ReadsTheSame (a : Ground) (old new : StateBox) : Type 0 where
  pub facts : (f : ℕ) → asks f a.pre ≡ true → fact_in new f ≡ fact_in old f
  pub fluents : (x : ℕ) → depends_on_fluent x a ≡ true → fluent_in new x ≡ fluent_in old x

-- The box has grown, with marks on the actions for which it isn't the same any more; and either nothing has changed, or
-- more demands are met.
pub record IsSpread (t : TaskValue) (old : StateBox) (marks : List Bool) (new : StateBox) (marked : List Bool) : Type 0 where
  pub grown : IsGrown t old new
  pub as_many : length marked ≡ length marks
  pub unread : (number : ℕ) (a : Ground) → slice_get t.raw.actions number ≡ Some a → is_marked marked number ≡ false
      → (is_marked marks number ≡ false) × ReadsTheSame a old new
  pub progress : ((new ≡ old) × (marked ≡ marks)) ⊎ (potential t new < potential t old)

-- the action of this number, which may be applied in the box
pub record IsApplied (t : TaskValue) (number : ℕ) (a : Ground) (b : StateBox) : Type 0 where
  pub is_action : slice_get t.raw.actions number ≡ Some a
  pub may_hold : IsTrue (may_hold t.places b a.pre)
