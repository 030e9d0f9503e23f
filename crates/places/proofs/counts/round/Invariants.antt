use Rattle.std.proofs.Common.{◌≡◌, ◌<◌, ℕ, Some, false, length, slice_get}
use Rattle.ground_task.specs.declared.raw.Ground.{Ground}
use Rattle.places.specs.Inside.{AreMet, IsRise}
use Rattle.places.proofs.counts.round.Given as goal

abbrev pub invariant-each : goal.invariant-each
invariant-each l =
    (length l.counts.items ≡ length l.raw.fluents)
    × IsRise l.raw l.initial.counts.items l.counts.items l.rose
    × (l.rose ≡ false → (number : ℕ) (a : Ground) → number < l.number → slice_get l.raw.actions number ≡ Some a → AreMet l.initial.counts.items a.nums)
