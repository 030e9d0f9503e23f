use Rattle.std.proofs.Common.{◌≡◌, ◌++◌, drop, map}
use Rattle.std.specs.Prelude.{flat_map}
use Rattle.bound_actions.specs.Patterns.{assigned, patterns}
use Rattle.bound_actions.proofs.unset.all_assigned.Given as goal

abbrev pub invariant-each : goal.invariant-each
invariant-each l =
    map (λ f. f.fluent) l.fluents.items ++ flat_map (λ e. patterns l.scope.checked.now l.scope.params.now (assigned e)) (drop l.effect-index l.effects)
    ≡ flat_map (λ e. patterns l.scope.checked.now l.scope.params.now (assigned e)) l.effects
