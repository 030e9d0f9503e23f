use Rattle.std.proofs.Common.{◌≡◌, drop, map}
use Rattle.std.specs.Option.{option_copied}
use Rattle.type_order.specs.internal.Jumps.{with_ends}
use Rattle.type_order.proofs.cycles.add_ends.Given as goal

abbrev pub invariant-each : goal.invariant-each
invariant-each l = with_ends l.seen (map option_copied (drop l.jump-index l.jumps)) ≡ with_ends l.initial.seen (map option_copied l.jumps)
