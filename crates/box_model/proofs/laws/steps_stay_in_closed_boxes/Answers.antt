use Rattle.box_model.proofs.Closed.{step_inside}
use Rattle.box_model.proofs.laws.steps_stay_in_closed_boxes.Goals as goal

pub returns : goal.returns
returns c = λ t b s next number a closed inside leads. step_inside t b a closed s next number inside leads
