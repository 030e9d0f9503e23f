use Rattle.std.proofs.Common.{◌≡◌, ◌+◌, drop}
use Rattle.std.specs.Prelude.{option_map}
use Rattle.folding.specs.internal.Changes.{all_pending, growth_place}
use Rattle.folding.proofs.growth.growth_place.Given as goal

abbrev pub invariant-each : goal.invariant-each
invariant-each l = record {
  counted : l.place ≡ l.change-index;
  rest : option_map (λ j. j + l.place) (growth_place l.fluent (all_pending (drop l.change-index l.changes))) ≡ growth_place l.fluent (all_pending l.changes);
}
