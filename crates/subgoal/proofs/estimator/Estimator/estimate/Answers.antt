use Rattle.std.proofs.Common.{◌∙◌}
use Rattle.subgoal.proofs.Improving.{far_above, far_zeros}
use Rattle.subgoal.proofs.estimator.Estimator.estimate.Goals as goal

pub settle-requires-clause-above : goal.settle-requires-clause-above
settle-requires-clause-above c =
    far_above c.self.inside.task.now c.args.state.now c.set_far.new.values.items (c.set_far.ensures.as_many ∙ c.self.invariant.0) c.set_far.ensures.far

pub settle-requires-clause-zeros : goal.settle-requires-clause-zeros
settle-requires-clause-zeros c =
    far_zeros c.self.inside.task.now c.args.state.now c.set_far.new.values.items c.self.inside.network.atoms.items c.set_far-2.new.values.items
    (c.set_far-2.ensures.as_many ∙ c.self.invariant.2) c.set_far-2.ensures.far
