use Rattle.std.proofs.Common.{List, ℕ, ap, sym, ◌∙◌, map}
use Rattle.ground_task.specs.declared.answers.Truth.{Truth}
use Rattle.subgoal.specs.Equations.{atom_value, least_of}
use Rattle.subgoal.specs.Help.{help_by_truth, help_by_reads}
use Rattle.subgoal.specs.Leaves.{reached_at}
use Rattle.subgoal.proofs.Helpers.{reads_least}
use Rattle.subgoal.proofs.atoms.comparison.Goals as goal

pub returns-in-Over : goal.returns-in-Over
returns-in-Over c =
    let view = c.args.view.now in
    reads_least view.task.now.raw.actions view.values.now c.requires.right.as_many c.args.leaf.now c.args.rel c.args.left.now c.args.right.now c.unmet_value.result c.requires.leaf
    (c.unmet_value.ensures ∙ ap (λ (hs : List ℕ). least_of (map (reached_at (help_by_reads c.args.left.now c.args.right.now) view.task.now.raw.actions view.values.now) hs)) c.as_slice.ensures)
    ∙ ap (λ (truth : Truth). atom_value view.task.now.raw.actions view.values.now (help_by_truth view.task.now view.state.now c.args.rel c.args.left.now c.args.right.now truth)) (sym c.in-Over.is)
