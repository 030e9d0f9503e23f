use Rattle.std.proofs.Common.{◌∙◌}
use Rattle.pddl_trees.proofs.Noted.{walked}
use Rattle.pddl_trees.proofs.LeafFaults.{leaves_noted, with_leaves_of}
use Rattle.pddl_trees.proofs.leaves.+leaves.Goals as goal

pub note_all_leaves-returns : goal.note_all_leaves-returns
note_all_leaves-returns t c =
    walked (with_leaves_of c.args.text.now) c.each.notes.first _ c.args.trees.now c.each.tree-index c.each-test.false c.each.invariant
    ∙ leaves_noted c.args.text.now c.args.notes.now.first c.args.trees.now
