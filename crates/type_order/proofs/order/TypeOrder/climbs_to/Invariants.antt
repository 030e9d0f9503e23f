use Rattle.std.proofs.Common.{◌≡◌, drop}
use Rattle.type_order.specs.Types.{climbs_to}
use Rattle.type_order.proofs.order.TypeOrder.climbs_to.Given as goal

abbrev pub invariant-steps : goal.invariant-steps
invariant-steps l = climbs_to l.self (drop l._step-index l.steps) l.kind l.other ≡ climbs_to l.self l.steps l.own l.other
