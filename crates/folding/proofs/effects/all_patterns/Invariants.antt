use Rattle.std.proofs.Common.{◌≡◌, ◌++◌, drop}
use Rattle.std.specs.Prelude.{flat_map}
use Rattle.folding.specs.internal.Changes.{change_patterns}
use Rattle.folding.proofs.effects.all_patterns.Given as goal

abbrev pub invariant-each : goal.invariant-each
invariant-each l =
    l.changes.items ++ flat_map (change_patterns l.scope.checked.now l.scope.params.now) (drop l.effect-index l.effects)
    ≡ flat_map (change_patterns l.scope.checked.now l.scope.params.now) l.effects
