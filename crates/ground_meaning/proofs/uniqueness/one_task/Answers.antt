use Rattle.ground_meaning.proofs.OneTask.{one_task}
use Rattle.ground_meaning.proofs.uniqueness.one_task.Goals as goal

pub returns : goal.returns
returns c = λ p readable t u a b. one_task p readable t u a b
