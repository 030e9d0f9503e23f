use Rattle.std.proofs.Common.{◌≡◌, drop}
use Rattle.std.specs.List.{flat_map}
use Rattle.pddl_trees.specs.Faults.{all_noted}
use Rattle.pddl_trees.specs.Declarations.{number_faults_if}
use Rattle.pddl_declarations.specs.internal.Typing.{with_type}
use Rattle.pddl_declarations.proofs.types.note_group.Given as goal

abbrev pub invariant-each : goal.invariant-each
invariant-each l =
    all_noted l.notes.first (flat_map (number_faults_if l.fn.named) (with_type l.group.kind (drop l.name-index l.group.names.items)))
    ≡ all_noted l.fn.notes.first (flat_map (number_faults_if l.fn.named) (with_type l.group.kind l.group.names.items))
