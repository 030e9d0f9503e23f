use Rattle.std.proofs.Common.{◌≡◌, ◌++◌}
use Rattle.pddl_trees.specs.TypedLists.{untyped}
use Rattle.pddl_declarations.proofs.groups.add_untyped.Given as goal

abbrev pub invariant-each : goal.invariant-each
invariant-each l = l.typed.items ≡ l.fn.typed.items ++ untyped l.yielded
