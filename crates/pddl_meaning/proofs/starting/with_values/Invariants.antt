use Rattle.std.proofs.Common.{◌≡◌, ◌≤◌, [], drop, length, map}
use Rattle.std.specs.FinMap as finite
use Rattle.num_ends.specs.Decimal.{trimmed}
use Rattle.pddl_terms.specs.Texts.{ground_text}
use Rattle.pddl_meaning.proofs.starting.with_values.Given as goal

abbrev pub invariant-each : goal.invariant-each
invariant-each l =
    (l.rest ≤ length l.values)
    × (l.world ≡ record { facts = l.initial.world.facts; values = finite.from_entries (map (λ v. (ground_text [] [] v.0, trimmed v.1)) (drop l.rest l.values)) })

abbrev pub decreases-each : goal.decreases-each
decreases-each l = l.rest
