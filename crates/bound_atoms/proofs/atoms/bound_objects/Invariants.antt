use Rattle.std.proofs.Common.{◌≡◌, ◌++◌, drop, map}
use Rattle.arrayvec.specs.ArrayVec.{array_vec_len}
use Rattle.bound_atoms.specs.Slots.{slot_number}
use Rattle.bound_atoms.proofs.atoms.bound_objects.Given as goal

abbrev pub invariant-each : goal.invariant-each
invariant-each l = record {
  counted : array_vec_len l.bound ≡ l.slot-index;
  rest : l.bound.items ++ map (slot_number l.objects) (drop l.slot-index l.slots) ≡ map (slot_number l.objects) l.slots;
}
