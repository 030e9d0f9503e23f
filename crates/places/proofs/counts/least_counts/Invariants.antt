use Rattle.std.proofs.Common.{◌≡◌, ◌+◌, ℕ, Some, false, cond, slice_get}
use Rattle.ground_task.specs.declared.raw.Ground.{Ground}
use Rattle.places.specs.Inside.{room_of, AreMet, IsUnderLeast}
use Rattle.places.proofs.counts.least_counts.Given as goal

abbrev pub invariant-rounds : goal.invariant-rounds
invariant-rounds l =
    IsUnderLeast l.raw l.counts.items
    × (l.rose ≡ false → (number : ℕ) (a : Ground) → slice_get l.raw.actions number ≡ Some a → AreMet l.counts.items a.nums)

abbrev pub decreases-rounds : goal.decreases-rounds
decreases-rounds l = room_of l.counts.items + cond l.rose 1 0
