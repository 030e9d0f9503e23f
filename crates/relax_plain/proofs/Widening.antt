-- The least box, and the least interval, that is around another one and passes a test.
use Rattle.std.proofs.Common.{◌≡◌, ℕ, Bool, true}
use Rattle.num_ends.specs.Ends.{Interval, is_inhabited, is_within}
use Rattle.ground_task.specs.Tasks.{TaskValue}
use Rattle.box_model.specs.Boxes.{IsBoxOf, IsEndFor, LiesWithin}
use Rattle.box_model.specs.declared.state_box.StateBox.{StateBox}

-- the new box is around the old one, passes the test, and lies within each box of the task that does so
pub record IsLeastBox (t : TaskValue) (test : StateBox → Bool) (old new : StateBox) : Type 0 where
  pub a_box : IsBoxOf t new
  pub wider : LiesWithin old new
  pub passes : test new ≡ true
  pub least : (c : StateBox) → IsBoxOf t c → LiesWithin old c → test c ≡ true → LiesWithin new c

-- what the interval of a fluent with so many places is
pub record IsIntervalFor (q : ℕ) (i : Interval) : Type 0 where
  pub inhabited : is_inhabited i.0 i.1 ≡ true
  pub lower_fits : IsEndFor q i.0
  pub upper_fits : IsEndFor q i.1

-- the same of intervals
pub record IsLeastInterval (q : ℕ) (test : Interval → Bool) (old new : Interval) : Type 0 where
  pub an_interval : IsIntervalFor q new
  pub wider : is_within old new ≡ true
  pub passes : test new ≡ true
  pub least : (j : Interval) → is_inhabited j.0 j.1 ≡ true → is_within old j ≡ true → test j ≡ true → is_within new j ≡ true
