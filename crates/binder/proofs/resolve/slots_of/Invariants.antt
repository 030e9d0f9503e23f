use Rattle.std.proofs.Common.{◌≡◌, ◌++◌, drop, map}
use Rattle.binder.specs.internal.Checks.{slot_of}
use Rattle.binder.proofs.resolve.slots_of.Given as goal

abbrev pub invariant-each : goal.invariant-each
invariant-each l = l.slots.items ++ map (slot_of l.scope.checked.now l.scope.params.now) (drop l.arg-index l.args) ≡ map (slot_of l.scope.checked.now l.scope.params.now) l.args
