use Rattle.std.proofs.Common.{◌≡◌, drop}
use Rattle.std.specs.Prelude.{max}
use Rattle.binder.specs.internal.Checks.{slots_level}
use Rattle.binder.proofs.checks.slots_level.Given as goal

abbrev pub invariant-each : goal.invariant-each
invariant-each l = max l.level (slots_level (drop l.slot-index l.slots)) ≡ slots_level l.slots
