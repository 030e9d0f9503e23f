use Rattle.std.proofs.Common.{◌≡◌, ◌++◌, drop}
use Rattle.std.specs.Prelude.{flat_map}
use Rattle.bound_actions.specs.Patterns.{condition_patterns}
use Rattle.bound_actions.proofs.reads.+reads.Given as goal

abbrev pub invariant-push_conditions-each : goal.invariant-push_conditions-each
invariant-push_conditions-each l =
    l.reads.items ++ flat_map (condition_patterns l.scope.checked.now l.scope.params.now) (drop l.cond-index l.conds)
    ≡ l.initial.reads.items ++ flat_map (condition_patterns l.scope.checked.now l.scope.params.now) l.conds
