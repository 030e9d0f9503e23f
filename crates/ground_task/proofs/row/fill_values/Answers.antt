use Rattle.std.proofs.Common.{pos, arith}
use Rattle.std.proofs.lemmas.List.{ext_get_or}
use Rattle.ground_task.proofs.row.fill_values.Goals as goal

pub returns-clause-values : goal.returns-clause-values
returns-clause-values c =
    ext_get_or (pos 0) c.each.row.values c.args.values.now c.each.invariant.0
    (λ k within. c.each.invariant.1 k (omega (arith, within, c.each-test.false, c.each.invariant.0)))
