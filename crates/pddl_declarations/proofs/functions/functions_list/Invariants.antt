use Rattle.std.proofs.Common.{◌≡◌, None, drop}
use Rattle.pddl_trees.specs.Faults.{all_noted}
use Rattle.pddl_declarations.specs.internal.FunctionSteps.{functions_with}
use Rattle.pddl_trees.specs.Declarations.{functions_list}
use Rattle.pddl_declarations.proofs.functions.functions_list.Given as goal

abbrev pub invariant-each : goal.invariant-each
invariant-each l = record {
  faults : all_noted l.notes.first (functions_with l.functions l.text l.fn.at (drop l.tree-index l.trees)).faults ≡ all_noted l.fn.notes.first (functions_list l.text l.fn.at l.trees).faults;
  items : l.notes.first ≡ None → (functions_with l.functions l.text l.fn.at (drop l.tree-index l.trees)).items ≡ (functions_list l.text l.fn.at l.trees).items;
}
