use Rattle.std.proofs.Common.{◌≡◌, map, slice_index_or}
use Rattle.std.specs.List.{range_with_len}
use Rattle.dead_rows.proofs.shape.places_of.Given as goal

abbrev pub invariant-each : goal.invariant-each
invariant-each l = l.places.items ≡ map (λ x. slice_index_or l.fn.task.places x 0) (range_with_len 0 l.fluent)
