use Rattle.std.proofs.Common.{get_or, sym}
use Rattle.box_model.specs.Demands.{bounds_of, end_on}
use Rattle.box_model.proofs.CapLemmas.{reaches_tightest}
use Rattle.box_model.proofs.demands.asked.Goals as goal

pub returns-then-may_move-clause-asked : goal.returns-then-may_move-clause-asked
returns-then-may_move-clause-asked c = λ i. rw c.if-may_move.true
    (reaches_tightest c.args.side (bounds_of c.args.task.now.places c.args.pre.now c.args.fluent c.args.expr.now c.args.side) c.tightest.result i c.tightest.ensures.tightest)

pub returns-else-may_move-clause-asked : goal.returns-else-may_move-clause-asked
returns-else-may_move-clause-asked c = λ i. rw c.if-may_move.false (sym (c.innermost.ensures.covered (end_on c.args.side i)))

pub returns-else-may_move-clause-fits : goal.returns-else-may_move-clause-fits
returns-else-may_move-clause-fits c = c.innermost.ensures.fits (get_or c.args.task.now.places c.args.fluent 0)
