use Rattle.std.proofs.Common.{◌≡◌, ◌++◌, drop}
use Rattle.binder.proofs.bindings.copied.Given as goal

abbrev pub invariant-each : goal.invariant-each
invariant-each l = l.lists.items ++ drop l.number l.rows.1 ≡ l.rows.1
