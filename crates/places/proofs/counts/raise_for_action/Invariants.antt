use Rattle.std.proofs.Common.{◌≡◌, false, length, take}
use Rattle.places.specs.Inside.{AreMet, IsRise}
use Rattle.places.proofs.counts.raise_for_action.Given as goal

abbrev pub invariant-each : goal.invariant-each
invariant-each l =
    (length l.counts.items ≡ length l.raw.fluents)
    × IsRise l.raw l.initial.counts.items l.counts.items l.rose
    × (l.rose ≡ false → AreMet l.initial.counts.items (take l.effect-index l.effect-items))
