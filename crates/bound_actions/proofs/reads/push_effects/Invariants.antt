use Rattle.std.proofs.Common.{◌≡◌, ◌++◌, drop}
use Rattle.std.specs.Prelude.{flat_map}
use Rattle.bound_actions.specs.Reads.{effect_reads}
use Rattle.bound_actions.specs.Patterns.{patterns}
use Rattle.bound_actions.proofs.reads.push_effects.Given as goal

abbrev pub invariant-each : goal.invariant-each
invariant-each l =
    l.reads.items ++ flat_map (λ e. patterns l.scope.checked.now l.scope.params.now (effect_reads e)) (drop l.effect-index l.effects)
    ≡ l.initial.reads.items ++ flat_map (λ e. patterns l.scope.checked.now l.scope.params.now (effect_reads e)) l.effects
