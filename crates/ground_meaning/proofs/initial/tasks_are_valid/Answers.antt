use Rattle.ground_meaning.proofs.ValidTask.{task_is_valid}
use Rattle.ground_meaning.proofs.initial.tasks_are_valid.Goals as goal

pub returns : goal.returns
returns c = λ p readable formed raw task. task_is_valid p readable formed raw task
