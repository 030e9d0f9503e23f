use Rattle.std.proofs.Common.{◌≡◌, take}
use Rattle.cert_check.proofs.index.kept.Given as goal

abbrev pub invariant-each : goal.invariant-each
invariant-each l = l.kept ≡ take l.own-index l.boxes
