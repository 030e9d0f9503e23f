use Rattle.std.proofs.Common.{◌≡◌, map, take}
use Rattle.places.specs.Inside.{first_count}
use Rattle.places.proofs.counts.first_counts.Given as goal

abbrev pub invariant-each : goal.invariant-each
invariant-each l = l.counts.items ≡ map first_count (take l.value-index l.values)
