use Rattle.std.proofs.Common.{◌≡◌, take}
use Rattle.ground_task.proofs.copies.texts.Given as goal

abbrev pub invariant-each : goal.invariant-each
invariant-each l = l.copies.items ≡ take l.one-index l.texts
