use Rattle.std.proofs.Common.{◌<◌, ◌^◌, subst, arith}
use Rattle.std.proofs.lemmas.Nat.{leading_length}
use Rattle.type_order.proofs.cycles.doublings.Goals as goal

pub returns : goal.returns
returns c =
    let length = leading_length 64 c.args.count c.ranges.count.fits in
    let whole = length.1 in
    subst (λ m. c.args.count < 2 ^ m) (omega (arith, whole)) length.2
