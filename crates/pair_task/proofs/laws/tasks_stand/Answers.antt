use Rattle.pair_task.proofs.Tasks.{stands}
use Rattle.pair_task.proofs.laws.tasks_stand.Goals as goal

pub returns : goal.returns
returns c = λ domain problem task few fewer. stands domain problem few fewer task
