use Rattle.ground_task.proofs.StateNumbers.{first_is_initial, initial_is_first}
use Rattle.ground_task.proofs.laws.initial.Goals as goal

pub returns-clause-made : goal.returns-clause-made
returns-clause-made c = first_is_initial

pub returns-clause-only : goal.returns-clause-only
returns-clause-only c = initial_is_first
