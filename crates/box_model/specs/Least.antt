-- The least closed box above a state, and dead boxes.
use Rattle.std.specs.Prelude.{◌≡◌, false, IsTrue}
use Rattle.ground_task.specs.States.{StateValue}
use Rattle.ground_task.specs.Tasks.{TaskValue}
use Rattle.box_model.specs.Boxes.{IsBoxOf, Contains, LiesWithin}
use Rattle.box_model.specs.Demands.{is_closed}
use Rattle.box_model.specs.Hold.{may_hold}
use Rattle.box_model.specs.declared.state_box.StateBox.{StateBox}

-- It contains the state, is closed, and lies within every closed box that contains the state.
pub record IsLeastClosed (t : TaskValue) (s : StateValue) (b : StateBox) : Type 0 where
  pub a_box : IsBoxOf t b
  pub contains : Contains t.places b s
  pub closed : IsTrue (is_closed t b)
  pub least : (c : StateBox) → IsBoxOf t c → Contains t.places c s → IsTrue (is_closed t c) → LiesWithin b c

-- closed, and the goal may not hold in it
pub record IsDead (t : TaskValue) (b : StateBox) : Type 0 where
  pub a_box : IsBoxOf t b
  pub closed : IsTrue (is_closed t b)
  pub misses_goal : may_hold t.places b t.raw.goal ≡ false
