use Rattle.std.proofs.Common.{◌≡◌, drop}
use Rattle.std.specs.List.{flat_map}
use Rattle.pddl_trees.specs.Faults.{all_noted}
use Rattle.pddl_trees.specs.Declarations.{number_faults_if}
use Rattle.pddl_declarations.specs.internal.Typing.{typed_of}
use Rattle.pddl_declarations.proofs.types.note_numbers.Given as goal

abbrev pub invariant-each : goal.invariant-each
invariant-each l =
    all_noted l.notes.first (flat_map (number_faults_if l.named) (typed_of (drop l.group-index l.groups)))
    ≡ all_noted l.fn.notes.first (flat_map (number_faults_if l.named) (typed_of l.groups))
