use Rattle.std.proofs.Common.{◌∷◌, ◌∙◌, sym}
use Rattle.box_model.specs.Caps.{IsTightest}
use Rattle.box_model.specs.Demands.{bounds_of, infinity}
use Rattle.box_model.proofs.CapLemmas.{tightest_by, tightest_fits}
use Rattle.box_model.proofs.caps.tightest.Goals as goal

tight : (c : goal.After-tightest_of) → IsTightest c.args.side (infinity c.args.side ∷ bounds_of c.args.task.now.places c.args.pre.now c.args.fluent c.args.expr.now c.args.side) c.tightest_of.result
tight c =
    tightest_by c.args.task.now.places c.args.pre.now c.args.fluent c.args.expr.now c.args.side c.in-Some.c c.places.result c.conjuncts.result.now c.tightest_of.result
    (sym c.constant_of.ensures ∙ c.in-Some.is) c.places.ensures.value c.conjuncts.ensures c.tightest_of.ensures

pub returns-in-Some-clause-tightest : goal.returns-in-Some-clause-tightest
returns-in-Some-clause-tightest c = tight c

pub returns-in-Some-clause-fits : goal.returns-in-Some-clause-fits
returns-in-Some-clause-fits c =
    tightest_fits c.args.task.now.places c.args.pre.now c.args.fluent c.args.expr.now c.args.side c.tightest_of.result (tight c)
