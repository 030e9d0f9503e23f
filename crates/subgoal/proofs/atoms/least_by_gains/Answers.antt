use Rattle.std.proofs.Common.{refl, ◌∙◌}
use Rattle.subgoal.specs.Leaves.{gain_at, reached_at}
use Rattle.subgoal.specs.Unmet.{help_by_value}
use Rattle.subgoal.proofs.LeafLists.{mapped_at}
use Rattle.subgoal.proofs.Steps.{any_lowered}
use Rattle.subgoal.proofs.atoms.least_by_gains.Goals as goal

pub lowered_by-least-requires-clause-gain : goal.lowered_by-least-requires-clause-gain
lowered_by-least-requires-clause-gain c =
    mapped_at (gain_at c.args.actions.now c.args.valued.now.form.now) c.args.helpers.now c.args.gains.now c.requires.gains c.each.k _ 0 c.index-gains-k.result _ c.each-test.true refl c.index-gains-k.is

pub each-preserved : goal.each-preserved
each-preserved c =
    record {
      whole = any_lowered (reached_at (help_by_value c.args.valued.now.form.now c.args.valued.now.value) c.args.actions.now c.args.values.now) c.args.helpers.now c.each.k _ 0 c.lowered_by-least.result c.each.least
          c.each-test.true refl c.lowered_by-least.ensures.value ∙ c.each.invariant.whole;
      near = c.lowered_by-least.ensures.near;
    }
