use Rattle.std.proofs.Common.{◌≡◌, codes, drop}
use Rattle.pddl_trees.specs.Declarations.{names_of}
use Rattle.pddl_declarations.specs.internal.Typing.{typed_of}
use Rattle.pddl_trees.specs.Words.{is_among}
use Rattle.pddl_declarations.proofs.types.has_number.Given as goal

abbrev pub invariant-each : goal.invariant-each
invariant-each l =
    is_among (codes "number") (names_of (typed_of (drop l.group-index l.groups)))
    ≡ is_among (codes "number") (names_of (typed_of l.groups))
