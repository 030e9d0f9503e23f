use Rattle.std.proofs.Common.{◌≡◌, ◌<◌, ◌*◌, ◌-◌, drop, map}
use Rattle.std.specs.Prelude.{◌^◌}
use Rattle.static_facts.specs.Codes.{with_digits}
use Rattle.bound_atoms.specs.Atoms.{capped_number}
use Rattle.bound_atoms.proofs.atoms.digits_of.Given as goal

abbrev pub invariant-digits : goal.invariant-digits
invariant-digits l = record {
  rest : with_digits (8 - l.place) l.code (drop l.place (map (capped_number l.objects) l.slots)) ≡ with_digits 8 l.symbol (map (capped_number l.objects) l.slots);
  small : l.code < 4294967296 * 4096 ^ l.place;
}
