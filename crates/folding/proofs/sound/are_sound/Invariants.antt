use Rattle.std.proofs.Common.{◌≡◌, drop}
use Rattle.folding.specs.internal.Sound.{are_sound}
use Rattle.folding.proofs.sound.are_sound.Given as goal

abbrev pub invariant-each : goal.invariant-each
invariant-each l = record {
  counted : l.place ≡ l.pattern-index;
  rest : are_sound l.objects (drop l.pattern-index l.patterns) ≡ are_sound l.objects l.patterns;
}
