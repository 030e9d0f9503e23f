use Rattle.std.proofs.Common.{refl, ◌∙◌}
use Rattle.subgoal.specs.Leaves.{reached_at}
use Rattle.subgoal.specs.Unmet.{help_of}
use Rattle.subgoal.proofs.Steps.{any_lowered}
use Rattle.subgoal.proofs.atoms.least_over.Goals as goal

pub each-preserved : goal.each-preserved
each-preserved c =
    record {
      whole = any_lowered (reached_at (help_of c.args.unmet.now) c.args.actions.now c.args.values.now) c.args.helpers.now c.each.helper-index _ 0 c.lowered-least.result c.each.least
          c.each-test.true refl c.lowered-least.ensures.value ∙ c.each.invariant.whole;
      near = c.lowered-least.ensures.near;
    }
