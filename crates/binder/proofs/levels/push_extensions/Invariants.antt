use Rattle.std.proofs.Common.{◌≡◌, ◌+◌, ◌<◌, ◌++◌, drop, length}
use Rattle.binder.specs.internal.Checks.{extensions}
use Rattle.binder.proofs.levels.push_extensions.Given as goal

abbrev pub invariant-each : goal.invariant-each
invariant-each l = record {
  width : l.rows.0 ≡ l.initial.rows.0;
  rest : l.rows.1 ++ extensions l.tester.statics.now l.tester.checks.now (drop l.object-index l.objects) l.prefix ≡ l.initial.rows.1 ++ extensions l.tester.statics.now l.tester.checks.now l.objects l.prefix;
  room : length l.rows.1 + length (drop l.object-index l.objects) < 9223372036854775808;
}
