use Rattle.std.proofs.Common.{◌≡◌}
use Rattle.pddl_meaning.specs.internal.Computed.{with_values}
use Rattle.pddl_meaning.proofs.writes.set_values.Given as goal

abbrev pub invariant-each : goal.invariant-each
invariant-each l = (l.world.facts ≡ l.initial.world.facts) × (l.world.values ≡ with_values l.initial.world.values l.yielded)
