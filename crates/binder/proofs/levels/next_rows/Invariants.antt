use Rattle.std.proofs.Common.{◌≡◌, ◌+◌, ◌≤◌, ◌++◌, drop, length}
use Rattle.std.specs.Prelude.{flat_map}
use Rattle.pddl_terms.specs.declared.limits.TheConstants.{MAX_PREFIXES}
use Rattle.binder.specs.internal.Checks.{extensions}
use Rattle.binder.proofs.levels.next_rows.Given as goal

abbrev pub invariant-each : goal.invariant-each
invariant-each l = record {
  width : l.next.0 ≡ l.rows.0 + 1;
  rest : l.next.1 ++ flat_map (extensions l.tester.statics.now l.tester.checks.now l.objects) (drop l.number l.rows.1) ≡ flat_map (extensions l.tester.statics.now l.tester.checks.now l.objects) l.rows.1;
  few : length l.next.1 + l.taken ≤ MAX_PREFIXES;
}
