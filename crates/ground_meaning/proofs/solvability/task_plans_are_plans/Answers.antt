use Rattle.ground_meaning.proofs.PlansBothWays.{task_plan_back}
use Rattle.ground_meaning.proofs.solvability.task_plans_are_plans.Goals as goal

pub returns : goal.returns
returns c = λ p t stood numbers plan. task_plan_back p t stood numbers plan
