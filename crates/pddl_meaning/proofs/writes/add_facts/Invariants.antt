use Rattle.std.proofs.Common.{◌≡◌}
use Rattle.std.specs.FinSet.{union, from_list}
use Rattle.pddl_meaning.proofs.writes.add_facts.Given as goal

abbrev pub invariant-each : goal.invariant-each
invariant-each l = (l.world.facts ≡ union l.initial.world.facts (from_list l.yielded)) × (l.world.values ≡ l.initial.world.values)
