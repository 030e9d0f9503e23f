use Rattle.box_model.proofs.Closed.{plan_inside}
use Rattle.box_model.proofs.laws.plans_stay_in_closed_boxes.Goals as goal

pub returns : goal.returns
returns c = λ t b s last numbers a closed inside leads. plan_inside t b a closed numbers s last inside leads
