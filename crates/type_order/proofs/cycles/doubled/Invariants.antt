use Rattle.std.proofs.Common.{◌≡◌, ◌++◌, drop, map}
use Rattle.std.specs.Option.{option_copied}
use Rattle.type_order.specs.internal.Jumps.{jumped_again}
use Rattle.type_order.proofs.cycles.doubled.Given as goal

abbrev pub invariant-each : goal.invariant-each
invariant-each l =
    map option_copied l.twice.items ++ map (jumped_again l.order (map option_copied l.jumps)) (map option_copied (drop l.jump-index l.jumps))
    ≡ map (jumped_again l.order (map option_copied l.jumps)) (map option_copied l.jumps)
