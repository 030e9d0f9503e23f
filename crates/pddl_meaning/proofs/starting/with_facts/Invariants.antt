use Rattle.std.proofs.Common.{◌≡◌, ◌≤◌, [], drop, length, map}
use Rattle.std.specs.FinSet as set
use Rattle.pddl_terms.specs.Texts.{ground_text}
use Rattle.pddl_meaning.proofs.starting.with_facts.Given as goal

abbrev pub invariant-each : goal.invariant-each
invariant-each l =
    (l.rest ≤ length l.facts) × (l.world ≡ record { facts = set.from_list (map (ground_text [] []) (drop l.rest l.facts)); values = l.initial.world.values })

abbrev pub decreases-each : goal.decreases-each
decreases-each l = l.rest
