use Rattle.std.proofs.Common.{◌≡◌, ◌<◌, ℕ, Some, slice_get}
use Rattle.std.specs.Prelude.{IsTrue}
use Rattle.ground_task.specs.declared.raw.Ground.{Ground}
use Rattle.ground_task.specs.Placed.{has_few_places}
use Rattle.places.proofs.sides.deep_action.Given as goal

abbrev pub invariant-each : goal.invariant-each
invariant-each l =
    (number : ℕ) (a : Ground) → number < l.number → slice_get l.raw.actions number ≡ Some a → IsTrue (has_few_places l.counts a.pre)
