use Rattle.ground_meaning.proofs.PlansBothWays.{both_solvable}
use Rattle.ground_meaning.proofs.solvability.same_solvability.Goals as goal

pub returns : goal.returns
returns c = λ p t stood st initial. both_solvable p t stood st initial
