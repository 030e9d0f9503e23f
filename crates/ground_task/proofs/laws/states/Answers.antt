use Rattle.ground_task.proofs.SameStates.{same_state, state_itself}
use Rattle.ground_task.proofs.laws.states.Goals as goal

pub returns-clause-same : goal.returns-clause-same
returns-clause-same c = same_state

pub returns-clause-itself : goal.returns-clause-itself
returns-clause-itself c = state_itself
