use Rattle.std.proofs.Common.{◌∙◌, get_or, sym, subst, ◌≤◌}
use Rattle.ground_task.specs.Placed.{places_of}
use Rattle.ground_task.specs.Valid.{right_side}
use Rattle.ground_task.specs.declared.raw.Change.{Change}
use Rattle.box_model.proofs.DemandSteps.{constant_few}
use Rattle.box_model.proofs.state_box.StateBox.demanded.Goals as goal

pub returns-in-Some-clause-fits : goal.returns-in-Some-clause-fits
returns-in-Some-clause-fits c =
    let places = c.args.task.now.places in
    let q = get_or places c.args.fluent 0 in
    c.point.ensures.fits q
    (constant_few places c.in-Set.expr c.in-Some.c q (sym c.constant_of.ensures ∙ c.in-Some.is)
    (subst (λ (change : Change). places_of places (right_side change) ≤ q) c.in-Set.is c.requires.few))
