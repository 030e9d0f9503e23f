use Rattle.pddl_meaning.proofs.SameSteps.{step_agrees}
use Rattle.pddl_meaning.proofs.agreement.ranged_steps_agree.Goals as goal

pub returns : goal.returns
returns c = step_agrees
