use Rattle.ground_meaning.proofs.BackSteps.{step_comes_back}
use Rattle.ground_meaning.proofs.solvability.steps_come_back.Goals as goal

pub returns : goal.returns
returns c = λ p t readable formed task w st number later at step. step_comes_back p readable formed t task w st number later at step
