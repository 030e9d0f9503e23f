use Rattle.std.proofs.Common.{◌≡◌, ◌++◌, None, drop}
use Rattle.pddl_trees.specs.Faults.{all_noted}
use Rattle.pddl_actions.specs.internal.ActionLists.{all_actions}
use Rattle.pddl_actions.proofs.schemas.actions.Given as goal

abbrev pub invariant-each : goal.invariant-each
invariant-each l = record {
  faults : all_noted l.notes.first (all_actions l.text (drop l.section-index l.sections)).faults ≡ all_noted l.fn.notes.first (all_actions l.text l.sections).faults;
  items : l.notes.first ≡ None → l.schemas.items ++ (all_actions l.text (drop l.section-index l.sections)).items ≡ (all_actions l.text l.sections).items;
}
