use Rattle.ground_meaning.proofs.PlansBothWays.{pair_plan_forward}
use Rattle.ground_meaning.proofs.solvability.plans_are_task_plans.Goals as goal

pub returns : goal.returns
returns c = λ p t stood steps plan st initial. pair_plan_forward p t stood steps plan st initial
