use Rattle.std.proofs.Common.{All, rules, subst, sym}
use Rattle.ground_task.specs.declared.raw.GCond.TheViews.{the_lemmas}
use Rattle.ground_task.specs.Inside.{IsDecidable}
use Rattle.ground_task.proofs.Evaluable.{members_And, members_Or}
use Rattle.ground_task.proofs.truth.+truths.Goals as goal

pub truth_of-truth_of_all-requires : goal.truth_of-truth_of_all-requires
truth_of-truth_of_all-requires t c =
    let whole = subst (IsDecidable c.args.task.now) c.in-And.is c.requires.decidable in
    let members = members_And c.args.task.now c.in-And.conds whole in
    (search (rules, the_lemmas), (c.requires.of_task, subst (All (IsDecidable c.args.task.now)) (sym c.as_slice.ensures) members))

pub truth_of-truth_of_any-requires : goal.truth_of-truth_of_any-requires
truth_of-truth_of_any-requires t c =
    let whole = subst (IsDecidable c.args.task.now) c.in-Or.is c.requires.decidable in
    let members = members_Or c.args.task.now c.in-Or.conds whole in
    (search (rules, the_lemmas), (c.requires.of_task, subst (All (IsDecidable c.args.task.now)) (sym c.as_slice-in-Or.ensures) members))
