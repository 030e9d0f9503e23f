use Rattle.ground_task.proofs.StateNumbers.{step_is_made, step_is_next, step_keeps_sizes}
use Rattle.ground_task.proofs.laws.steps.Goals as goal

pub returns-clause-made : goal.returns-clause-made
returns-clause-made c = step_is_made

pub returns-clause-only : goal.returns-clause-only
returns-clause-only c = step_is_next

pub returns-clause-sizes : goal.returns-clause-sizes
returns-clause-sizes c = step_keeps_sizes
