use Rattle.std.proofs.Common.{false, arith}
use Rattle.std.proofs.lemmas.List.{ext_get_or}
use Rattle.ground_task.proofs.row.fill_facts.Goals as goal

pub returns-clause-facts : goal.returns-clause-facts
returns-clause-facts c =
    ext_get_or false c.each.row.facts c.args.facts.now c.each.invariant.0
    (λ k within. c.each.invariant.1 k (omega (arith, within, c.each-test.false, c.each.invariant.0)))
