use Rattle.ground_meaning.proofs.Stepping.{step_stands}
use Rattle.ground_meaning.proofs.laws.steps_stand.Goals as goal

pub returns : goal.returns
returns c = λ p t readable formed task placed w st name objects next at step. step_stands p readable formed t task placed w st name objects next at step
