use Rattle.std.proofs.Common.{◌≡◌, ◌++◌, drop}
use Rattle.std.specs.Prelude.{flat_map}
use Rattle.bound_actions.specs.Patterns.{added, patterns}
use Rattle.bound_actions.proofs.facts.added_patterns.Given as goal

abbrev pub invariant-each : goal.invariant-each
invariant-each l =
    l.facts.items ++ flat_map (λ e. patterns l.scope.checked.now l.scope.params.now (added e)) (drop l.effect-index l.effects)
    ≡ flat_map (λ e. patterns l.scope.checked.now l.scope.params.now (added e)) l.effects
