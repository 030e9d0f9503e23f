use Rattle.std.proofs.Common.{◌≡◌, map}
use Rattle.std.specs.Option.{option_copied}
use Rattle.type_order.specs.internal.Jumps.{jumps_of}
use Rattle.type_order.proofs.cycles.jumps.Given as goal

abbrev pub invariant-each : goal.invariant-each
invariant-each l = map option_copied l.jumps.items ≡ jumps_of l.order l._round
