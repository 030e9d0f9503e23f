use Rattle.std.proofs.Common.{◌≡◌, ◌++◌, drop, map}
use Rattle.binder.specs.internal.Checks.{slot_value}
use Rattle.binder.proofs.checks.push_values.Given as goal

abbrev pub invariant-each : goal.invariant-each
invariant-each l = l.objects.items ++ map (slot_value l.row) (drop l.slot-index l.slots) ≡ l.initial.objects.items ++ map (slot_value l.row) l.slots
