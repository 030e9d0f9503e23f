use Rattle.std.proofs.Common.{ap, arith}
use Rattle.ground_task.specs.declared.raw.RawTask.{RawTask}
use Rattle.subgoal.proofs.Networks.{goal_counted, task_named}
use Rattle.subgoal.proofs.network.network_of.Goals as goal

pub returns-clause-network : goal.returns-clause-network
returns-clause-network c =
    task_named c.args.task.now (record { atoms = c.new.result; numbers = c.new-2.result; known = c.new-3.result }) c.push_condition.new.network c.push_preconditions.new.network c.raw.result.now.goal
    c.new.ensures.items c.new-2.ensures.items (ap (λ (r : RawTask). r.goal) c.raw.ensures.value) c.in_ok-push_condition.ensures c.in_ok-push_preconditions.ensures

pub returns-clause-goal : goal.returns-clause-goal
returns-clause-goal c =
    goal_counted c.args.task.now (record { atoms = c.new.result; numbers = c.new-2.result; known = c.new-3.result }) c.push_condition.new.network c.push_preconditions.new.network c.raw.result.now.goal
    c.new.ensures.items c.new-2.ensures.items (ap (λ (r : RawTask). r.goal) c.raw.ensures.value) c.in_ok-push_condition.ensures c.len-behind.result (omega (arith, c.len-behind.ensures, c.push_condition.new.network.numbers.ok.0))
