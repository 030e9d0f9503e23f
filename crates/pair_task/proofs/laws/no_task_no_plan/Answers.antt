use Rattle.pair_task.proofs.Tasks.{no_plan}
use Rattle.pair_task.proofs.laws.no_task_no_plan.Goals as goal

pub returns : goal.returns
returns c = λ domain problem task few fewer. no_plan domain problem few fewer task
