-- What the least closed box of a state tells.
use Rattle.std.proofs.Common.{◌≡◌, true, false, Bool, refl}
use Rattle.std.specs.Prelude.{not}
use Rattle.ground_task.specs.States.{StateValue}
use Rattle.ground_task.specs.Tasks.{TaskValue}
use Rattle.box_model.specs.declared.state_box.StateBox.{StateBox}
use Rattle.box_model.specs.Hold.{may_hold}
use Rattle.box_model.specs.Least.{IsLeastClosed}
use Rattle.search_nodes.specs.declared.views.View.{View}
use Rattle.search_nodes.specs.declared.views.View.TheVariants as view
use Rattle.search_records.proofs.TaskLaws.{least_keeps}
use Rattle.search_records.specs.Spaces.{AnyDead, LeastDead}
use Rattle.search_core.specs.Views.{IsRightView}

not_true : (b : Bool) → not b ≡ true → b ≡ false
not_true true is = cc
not_true false is = refl

not_false : (b : Bool) → not b ≡ false → b ≡ true
not_false true is = refl
not_false false is = cc

pub dead_by_box : (t : TaskValue) (s : StateValue) (b : StateBox) → IsLeastClosed t s b → not (may_hold t.places b t.raw.goal) ≡ true → LeastDead t s b
dead_by_box t s b least misses =
    (least, record { a_box = least.a_box; closed = least.closed; misses_goal = not_true (may_hold t.places b t.raw.goal) misses })

pub may_by_box : (t : TaskValue) (b : StateBox) → not (may_hold t.places b t.raw.goal) ≡ false → may_hold t.places b t.raw.goal ≡ true
may_by_box t b misses = not_false (may_hold t.places b t.raw.goal) misses

-- a view by the least closed box is right where any dead box may be kept
pub wider_view : (t : TaskValue) (s : StateValue) (found : View) → IsRightView LeastDead t s found → IsRightView AnyDead t s found
wider_view t s view.Goal is = is
wider_view t s (view.Dead own) is = least_keeps t s own is
wider_view t s (view.Live h) is = is
wider_view t s (view.LiveOver h) is = is
