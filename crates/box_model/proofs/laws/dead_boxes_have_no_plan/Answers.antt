use Rattle.box_model.proofs.Closed.{no_plan}
use Rattle.box_model.proofs.laws.dead_boxes_have_no_plan.Goals as goal

pub returns : goal.returns
returns c = λ t b s numbers dead inside leads. no_plan t b dead.a_box dead numbers s inside leads
