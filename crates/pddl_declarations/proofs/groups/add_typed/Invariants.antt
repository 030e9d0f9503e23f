use Rattle.std.proofs.Common.{◌≡◌, ◌++◌}
use Rattle.pddl_trees.specs.TypedLists.{typed_as}
use Rattle.pddl_declarations.proofs.groups.add_typed.Given as goal

abbrev pub invariant-each : goal.invariant-each
invariant-each l = l.typed.items ≡ l.fn.typed.items ++ typed_as l.kind l.yielded
