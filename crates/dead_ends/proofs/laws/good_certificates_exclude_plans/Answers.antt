use Rattle.std.proofs.Common.{subst}
use Rattle.ground_task.specs.States.{StateValue}
use Rattle.ground_task.specs.Steps.{IsPlanFrom}
use Rattle.dead_ends.specs.Reachable.{initial_state}
use Rattle.dead_ends.proofs.NoPlan.{none_from}
use Rattle.dead_ends.proofs.laws.good_certificates_exclude_plans.Goals as goal

pub returns : goal.returns
returns c = λ t boxes states plan placed good is_plan.
    none_from t boxes states good (λ b s numbers dead contains leads. c.dead_boxes_have_no_plan.ensures t b s numbers dead contains leads) plan (initial_state t) good.initial
    (subst (λ (s : StateValue). IsPlanFrom t s plan) (c.initial.ensures.only t is_plan.0 placed is_plan.1) is_plan.2)
