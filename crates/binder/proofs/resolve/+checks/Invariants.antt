use Rattle.std.proofs.Common.{◌≡◌, ◌++◌, drop}
use Rattle.std.specs.Prelude.{flat_map}
use Rattle.static_facts.specs.Literals.{conjuncts}
use Rattle.binder.specs.internal.Checks.{checks_of}
use Rattle.binder.proofs.resolve.+checks.Given as goal

abbrev pub invariant-push_all_checks-each : goal.invariant-push_all_checks-each
invariant-push_all_checks-each l =
    l.checks ++ flat_map (λ c. checks_of l.scope.checked.now l.scope.params.now (conjuncts c l.polarity)) (drop l.cond-index l.conds)
    ≡ l.initial.checks ++ flat_map (λ c. checks_of l.scope.checked.now l.scope.params.now (conjuncts c l.polarity)) l.conds
