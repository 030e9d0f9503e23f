use Rattle.std.proofs.Common.{ap}
use Rattle.ground_task.specs.declared.raw.RawTask.{RawTask}
use Rattle.subgoal.proofs.Improving.{estimate_found}
use Rattle.subgoal.proofs.estimator.goal_value.Goals as goal

pub returns : goal.returns
returns c =
    estimate_found c.args.rules.now c.args.state.now c.args.values.now c.args.weights.now c.as_slice.result.now c.raw.result.now.goal c.condition.result
    c.requires.rules c.requires.solved c.requires.weights c.as_slice.ensures.value (ap (λ (r : RawTask). r.goal) c.raw.ensures.value) c.condition.ensures
