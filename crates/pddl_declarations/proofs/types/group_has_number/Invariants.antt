use Rattle.std.proofs.Common.{◌≡◌, codes, drop}
use Rattle.pddl_trees.specs.Declarations.{names_of}
use Rattle.pddl_declarations.specs.internal.Typing.{with_type}
use Rattle.pddl_trees.specs.Words.{is_among}
use Rattle.pddl_declarations.proofs.types.group_has_number.Given as goal

abbrev pub invariant-each : goal.invariant-each
invariant-each l =
    is_among (codes "number") (names_of (with_type l.group.kind (drop l.name-index l.group.names.items)))
    ≡ is_among (codes "number") (names_of (with_type l.group.kind l.group.names.items))
