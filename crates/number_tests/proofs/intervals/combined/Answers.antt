use Rattle.std.proofs.Common.{arith}
use Rattle.number_tests.proofs.intervals.combined.Goals as goal

pub mul-requires : goal.mul-requires
mul-requires g c =
    let i = c.is_whole.ensures.0 c.if-assert.false in
    let j = c.is_whole-2.ensures.0 c.if-assert-2.false in
    record { first = 0; second = 0; first_lower = i.0; first_upper = i.1; second_lower = j.0; second_upper = j.1; few = omega arith }
