use Rattle.std.proofs.Common.{◌≡◌, ℕ, ◌<◌, map, pos, slice_index_or}
use Rattle.num_ends.specs.Decimal.{InRange}
use Rattle.std.specs.List.{range_with_len}
use Rattle.num_ends.specs.Ends.{point_of}
use Rattle.ground_task.specs.Meaning.{fluent_value}
use Rattle.box_model.proofs.around.fluents_around.Given as goal

abbrev pub invariant-each : goal.invariant-each
invariant-each l = record {
  each : l.fluents.items ≡ map (λ x. point_of (fluent_value l.task.places l.state x)) (range_with_len 0 l.fluent);
  in_range : (x : ℕ) → x < l.fluent → InRange (slice_index_or l.state.values x (pos 0));
}
