use Rattle.std.proofs.Common.{◌≡◌, ◌≤◌, drop}
use Rattle.pddl_trees.specs.Faults.{all_noted}
use Rattle.pddl_trees.specs.Trees.{forms_of}
use Rattle.pddl_trees.specs.TypedLists.{typed_list}
use Rattle.pddl_declarations.specs.Kinds.{kind_of}
use Rattle.pddl_declarations.specs.internal.Typing.{typed_with}
use Rattle.pddl_declarations.proofs.typed.groups.Given as goal

abbrev pub invariant-each : goal.invariant-each
invariant-each l = record {
  faults : all_noted l.notes.first (typed_with l.names (kind_of l.kind) l.at (forms_of l.text (drop l.tree-index l.trees))).faults
      ≡ all_noted l.fn.notes.first (typed_list (kind_of l.kind) l.at (forms_of l.text l.trees)).faults;
  items : (typed_with l.names (kind_of l.kind) l.at (forms_of l.text (drop l.tree-index l.trees))).items ≡ (typed_list (kind_of l.kind) l.at (forms_of l.text l.trees)).items;
  seen : l.names.seen ≤ l.tree-index;
}
