use Rattle.std.proofs.Common.{arith}
use Rattle.ground_task.proofs.NumberOrder.{last_numbers}
use Rattle.ground_task.proofs.row.Row.cmp_values.Goals as goal

pub returns : goal.returns
returns c =
    let e = last_numbers c.each.place c.args.self.now.values c.args.other.now.values (omega (arith, c.each-test.false, c.each.auto.place-end, c.min-count.ensures, c.value_count.ensures, c.value_count-2.ensures)) in
    let i = c.each.invariant in
    cc
