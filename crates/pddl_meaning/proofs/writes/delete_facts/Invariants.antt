use Rattle.std.proofs.Common.{◌≡◌, drop}
use Rattle.std.specs.FinSet.{difference, from_list}
use Rattle.pddl_meaning.proofs.writes.delete_facts.Given as goal

abbrev pub invariant-each : goal.invariant-each
invariant-each l = (difference l.world.facts (from_list (drop l.text-index l.texts)) ≡ difference l.initial.world.facts (from_list l.texts)) × (l.world.values ≡ l.initial.world.values)
