-- What is right where least closed boxes alone may be kept is right where any dead box may.
use Rattle.ground_task.specs.States.{StateValue}
use Rattle.ground_task.specs.Tasks.{TaskValue}
use Rattle.search_nodes.specs.declared.views.View.{View}
use Rattle.search_nodes.specs.declared.views.View.TheVariants as view
use Rattle.search_records.proofs.TaskLaws.{least_keeps}
use Rattle.search_records.specs.Spaces.{AnyDead, LeastDead}
use Rattle.search_core.specs.Views.{IsRightView}

pub wider_view : (t : TaskValue) (s : StateValue) (found : View) → IsRightView LeastDead t s found → IsRightView AnyDead t s found
wider_view t s view.Goal is = is
wider_view t s (view.Dead own) is = least_keeps t s own is
wider_view t s (view.Live h) is = is
wider_view t s (view.LiveOver h) is = is
