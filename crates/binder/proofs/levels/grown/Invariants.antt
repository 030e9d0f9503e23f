use Rattle.std.proofs.Common.{◌≡◌, ◌+◌, ◌≤◌, drop}
use Rattle.pddl_terms.specs.declared.limits.TheConstants.{MAX_PREFIXES}
use Rattle.binder.specs.internal.Levels.{counted, grown}
use Rattle.binder.proofs.levels.grown.Given as goal

abbrev pub invariant-params : goal.invariant-params
invariant-params l = record {
  width : l.rows.0 ≡ l.param-index;
  rest : grown l.checked l.tester.checks.now (drop l.param-index l.params) l.rows.1 ≡ grown l.checked l.tester.checks.now l.params l.fn.first.1;
  count : l.taken + counted l.checked l.tester.checks.now (drop l.param-index l.params) l.rows.1 ≡ counted l.checked l.tester.checks.now l.params l.fn.first.1;
  few : l.taken ≤ MAX_PREFIXES;
}
