use Rattle.std.proofs.Common.{◌≡◌}
use Rattle.pddl_declarations.specs.internal.Typing.{typed_of}
use Rattle.pddl_declarations.proofs.groups.typed_of.Given as goal

abbrev pub invariant-each : goal.invariant-each
invariant-each l = l.typed.items ≡ typed_of l.yielded
