use Rattle.plan_validator.proofs.Unbounded.{plan_is_valid_or_over}
use Rattle.plan_validator.proofs.laws.plans_are_valid_or_over.Goals as goal

pub returns : goal.returns
returns c = plan_is_valid_or_over c.ranged_steps_agree.ensures c.ranged_goals_agree.ensures
