use Rattle.std.proofs.Common.{rules, arith, ◌+◌}
use Rattle.plan_validator.proofs.Onward.{blocked_here, illegal_here, over_here, valid_here, no_goal_here, over_goal_here}
use Rattle.plan_validator.proofs.execution.validate.Goals as goal

pub returns-in-Blocked : goal.returns-in-Blocked
returns-in-Blocked c =
    blocked_here c.args.checked.now c.loop-step.world (c.loop-step.number + 1) c.loop-step.step-index c.args.plan.now c.step-item.result
    c.loop-step.invariant.whole c.loop-step-test.true c.step-item.is (grind (arith, rules))

pub returns-in-Illegal : goal.returns-in-Illegal
returns-in-Illegal c =
    illegal_here c.args.checked.now c.loop-step.world (c.loop-step.number + 1) c.loop-step.step-index c.args.plan.now c.step-item.result
    c.loop-step.invariant.whole c.loop-step-test.true c.step-item.is (grind (arith, rules))

pub returns-in-Over : goal.returns-in-Over
returns-in-Over c =
    over_here c.args.checked.now c.loop-step.world (c.loop-step.number + 1) c.loop-step.step-index c.args.plan.now c.step-item.result
    c.loop-step.invariant.whole c.loop-step-test.true c.step-item.is (grind (arith, rules))

pub returns-in-Yes : goal.returns-in-Yes
returns-in-Yes c =
    valid_here c.args.checked.now c.loop-step.world (c.loop-step.number + 1) c.loop-step.step-index c.args.plan.now
    c.loop-step.invariant.whole c.loop-step-test.false (grind (arith, rules))

pub returns-in-No : goal.returns-in-No
returns-in-No c =
    no_goal_here c.args.checked.now c.loop-step.world (c.loop-step.number + 1) c.loop-step.step-index c.args.plan.now
    c.loop-step.invariant.whole c.loop-step-test.false (grind (arith, rules))

pub returns : goal.returns
returns c =
    over_goal_here c.args.checked.now c.loop-step.world (c.loop-step.number + 1) c.loop-step.step-index c.args.plan.now
    c.loop-step.invariant.whole c.loop-step-test.false (grind (arith, rules))
