use Rattle.std.proofs.Common.{◌≡◌, ◌++◌, drop, map}
use Rattle.bound_atoms.specs.Slots.{slot_of}
use Rattle.bound_atoms.proofs.slots.slots_of.Given as goal

abbrev pub invariant-each : goal.invariant-each
invariant-each l = l.slots.items ++ map (slot_of l.checked l.params) (drop l.arg-index l.args) ≡ map (slot_of l.checked l.params) l.args
