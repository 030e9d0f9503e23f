use Rattle.std.proofs.Common.{◌≡◌, drop}
use Rattle.binder.specs.internal.Checks.{extends}
use Rattle.binder.proofs.checks.extends.Given as goal

abbrev pub invariant-each : goal.invariant-each
invariant-each l = extends l.statics (drop l.check-index l.checks) l.row ≡ extends l.statics l.checks l.row
