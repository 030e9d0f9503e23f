use Rattle.std.proofs.Common.{◌≡◌, drop}
use Rattle.std.specs.List.{flat_map}
use Rattle.pddl_trees.specs.Faults.{all_noted}
use Rattle.pddl_trees.specs.Trees.{forms_of}
use Rattle.pddl_trees.specs.Declarations.{requirement_faults}
use Rattle.pddl_declarations.proofs.declarations.note_requirements.Given as goal

abbrev pub invariant-each : goal.invariant-each
invariant-each l =
    all_noted l.notes.first (flat_map requirement_faults (forms_of l.text (drop l.tree-index l.trees)))
    ≡ all_noted l.fn.notes.first (flat_map requirement_faults (forms_of l.text l.trees))
