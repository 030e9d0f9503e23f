use Rattle.std.proofs.Common.{◌≡◌, drop}
use Rattle.std.specs.Prelude.{fold}
use Rattle.pddl_trees.proofs.LeafFaults.{with_leaves_of}
use Rattle.pddl_trees.proofs.leaves.+leaves.Given as goal

abbrev pub invariant-note_all_leaves-each : goal.invariant-note_all_leaves-each
invariant-note_all_leaves-each l =
    fold (with_leaves_of l.text) l.notes.first (drop l.tree-index l.trees) ≡ fold (with_leaves_of l.text) l.initial.notes.first l.trees
