use Rattle.std.proofs.Common.{◌≡◌, ◌<◌, ◌*◌, ◌-◌, drop}
use Rattle.std.specs.Prelude.{◌^◌}
use Rattle.static_facts.specs.Codes.{with_digits}
use Rattle.static_facts.proofs.codes.digits_of.Given as goal

abbrev pub invariant-digits : goal.invariant-digits
invariant-digits l = record {
  rest : with_digits (8 - l.place) l.code (drop l.place l.objects) ≡ with_digits 8 l.symbol l.objects;
  small : l.code < 4294967296 * 4096 ^ l.place;
}
