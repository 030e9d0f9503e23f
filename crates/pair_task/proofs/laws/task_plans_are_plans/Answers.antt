use Rattle.pair_task.proofs.Tasks.{plan_back}
use Rattle.pair_task.proofs.laws.task_plans_are_plans.Goals as goal

pub returns : goal.returns
returns c = λ domain problem task few fewer. plan_back domain problem few fewer task
