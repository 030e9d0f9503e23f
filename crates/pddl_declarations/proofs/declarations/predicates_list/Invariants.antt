use Rattle.std.proofs.Common.{◌≡◌, ◌++◌, None, drop}
use Rattle.pddl_trees.specs.Faults.{all_noted}
use Rattle.pddl_trees.specs.Declarations.{predicates_list}
use Rattle.pddl_declarations.proofs.declarations.predicates_list.Given as goal

abbrev pub invariant-each : goal.invariant-each
invariant-each l = record {
  faults : all_noted l.notes.first (predicates_list l.text (drop l.tree-index l.trees)).faults ≡ all_noted l.fn.notes.first (predicates_list l.text l.trees).faults;
  items : l.notes.first ≡ None → l.sigs.items ++ (predicates_list l.text (drop l.tree-index l.trees)).items ≡ (predicates_list l.text l.trees).items;
}
