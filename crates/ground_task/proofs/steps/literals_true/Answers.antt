use Rattle.std.proofs.Common.{All, subst, sym}
use Rattle.ground_task.specs.Inside.{IsDecidable}
use Rattle.ground_task.proofs.Conjuncts.{decidable_conjuncts}
use Rattle.ground_task.proofs.steps.literals_true.Goals as goal

pub is_true_literal-requires-clause-decidable : goal.is_true_literal-requires-clause-decidable
is_true_literal-requires-clause-decidable c =
    let all = subst (All (IsDecidable c.args.task.now)) (sym c.conjuncts-conjunct-items.ensures) (decidable_conjuncts c.args.task.now c.args.cond.now c.requires.decidable) in
    subst (IsDecidable c.args.task.now) (sym c.conjunct-item.is) (all c.each.conjunct-index c.conjunct-item.result c.each-test.true)
