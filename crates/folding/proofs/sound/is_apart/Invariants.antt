use Rattle.std.proofs.Common.{◌≡◌, drop}
use Rattle.std.specs.List.{list_all}
use Rattle.folding.specs.internal.Sound.{are_distinct}
use Rattle.folding.proofs.sound.is_apart.Given as goal

abbrev pub invariant-each : goal.invariant-each
invariant-each l = list_all (are_distinct l.objects l.pattern) (drop l.other-index l.later) ≡ list_all (are_distinct l.objects l.pattern) l.later
