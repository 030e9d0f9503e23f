use Rattle.box_model.specs.Demands.{bounds_of}
use Rattle.box_model.specs.Hold.{interval_of}
use Rattle.box_model.proofs.DemandSteps.{growth_by}
use Rattle.box_model.proofs.state_box.StateBox.grown.Goals as goal

pub returns-clause-asked : goal.returns-clause-asked
returns-clause-asked c = λ i.
    growth_by (bounds_of c.args.task.now.places c.args.pre.now c.args.fluent c.args.expr.now) (interval_of c.args.task.now.places c.args.self.now c.args.expr.now) i
    c.interval_of-by.result c.point-still.result c.asked.result c.asked-2.result c.may_less.result c.may_less-2.result
    c.interval_of-by.ensures c.point-still.ensures c.may_less.ensures c.may_less-2.ensures (c.asked.ensures.asked i) (c.asked-2.ensures.asked i)
