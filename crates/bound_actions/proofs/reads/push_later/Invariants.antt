use Rattle.std.proofs.Common.{◌≡◌, ◌++◌, drop, map}
use Rattle.std.specs.Prelude.{flat_map}
use Rattle.bound_actions.specs.Reads.{clash_with}
use Rattle.bound_actions.specs.Patterns.{pattern_pair}
use Rattle.bound_actions.proofs.reads.push_later.Given as goal

abbrev pub invariant-each : goal.invariant-each
invariant-each l =
    l.apart.items ++ flat_map (λ e. map (pattern_pair l.scope.checked.now l.scope.params.now) (clash_with l.how l.atom e)) (drop l.later-index l.effects)
    ≡ l.initial.apart.items ++ flat_map (λ e. map (pattern_pair l.scope.checked.now l.scope.params.now) (clash_with l.how l.atom e)) l.effects
