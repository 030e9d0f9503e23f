use Rattle.std.proofs.Common.{◌≡◌, ◌++◌, length, map}
use Rattle.bound_actions.specs.Reads.{clashes}
use Rattle.bound_actions.specs.Patterns.{pattern_pair}
use Rattle.bound_actions.proofs.reads.clashes.Given as goal

abbrev pub invariant-each : goal.invariant-each
invariant-each l =
    l.apart.items ++ map (pattern_pair l.scope.checked.now l.scope.params.now) (clashes l.rest) ≡ map (pattern_pair l.scope.checked.now l.scope.params.now) (clashes l.effects)

abbrev pub decreases-each : goal.decreases-each
decreases-each l = length l.rest
