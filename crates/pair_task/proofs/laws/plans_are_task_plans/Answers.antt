use Rattle.pair_task.proofs.Tasks.{plan_forward}
use Rattle.pair_task.proofs.laws.plans_are_task_plans.Goals as goal

pub returns : goal.returns
returns c = λ domain problem task few fewer. plan_forward domain problem few fewer task
