-- Decimals of as many places are ordered by their numbers.
use Rattle.std.proofs.Common.{◌≡◌, max, int_lt, int_le, ap₂, arith}
use Rattle.num_ends.specs.Decimal.{Decimal, is_less, is_at_most}
use Rattle.num_ends.proofs.DecimalOrder.{no_place_more}

pub less : (a b : Decimal) → a.p ≡ b.p → is_less a b ≡ int_lt a.n b.n
less a b e =
    let c = max a.p b.p in
    ap₂ int_lt (no_place_more c a (omega arith)) (no_place_more c b (omega arith))

pub at_most : (a b : Decimal) → a.p ≡ b.p → is_at_most a b ≡ int_le a.n b.n
at_most a b e =
    let c = max a.p b.p in
    ap₂ int_le (no_place_more c a (omega arith)) (no_place_more c b (omega arith))
