use Rattle.std.proofs.Common.{◌≡◌, false, map, slice_index_or}
use Rattle.std.specs.List.{range_with_len}
use Rattle.box_model.specs.Boxes.{only}
use Rattle.box_model.proofs.around.facts_around.Given as goal

abbrev pub invariant-each : goal.invariant-each
invariant-each l = l.facts.items ≡ map (λ f. only (slice_index_or l.state.facts f false)) (range_with_len 0 l.fact)
