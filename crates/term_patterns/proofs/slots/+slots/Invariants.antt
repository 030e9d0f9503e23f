use Rattle.std.proofs.Common.{◌≡◌, ◌++◌, drop, map}
use Rattle.term_patterns.specs.Slots.{condition_slots}
use Rattle.term_patterns.proofs.slots.+slots.Given as goal

abbrev pub invariant-all_slots-each : goal.invariant-all_slots-each
invariant-all_slots-each l =
    l.items.items ++ map (λ c. condition_slots l.scope.checked.now l.scope.params.now c l.polarity) (drop l.cond-index l.conds)
    ≡ map (λ c. condition_slots l.scope.checked.now l.scope.params.now c l.polarity) l.conds
