use Rattle.plan_validator.proofs.Unbounded.{valid_is_plan}
use Rattle.plan_validator.proofs.laws.valid_plans_are_plans.Goals as goal

pub returns : goal.returns
returns c = valid_is_plan c.ranged_steps_agree.ensures c.ranged_goals_agree.ensures
