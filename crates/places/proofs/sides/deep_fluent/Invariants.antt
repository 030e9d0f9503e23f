use Rattle.std.proofs.Common.{◌<◌, ◌≤◌, ℕ, slice_index_or}
use Rattle.places.proofs.sides.deep_fluent.Given as goal

abbrev pub invariant-each : goal.invariant-each
invariant-each l = (y : ℕ) → y < l.x → slice_index_or l.counts y 0 ≤ 9
