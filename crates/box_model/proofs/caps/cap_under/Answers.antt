use Rattle.box_model.proofs.CapLemmas.{cap_found, no_growth, no_side}
use Rattle.std.proofs.Common.{inl, inr}
use Rattle.box_model.proofs.caps.cap_under.Goals as goal

pub returns-in-Some : goal.returns-in-Some
returns-in-Some c =
    let grows = c.in-Some.ensures in
    cap_found c.args.task.now.places c.args.pre.now c.args.fluent c.args.change.now grows.0 c.in-Some.side c.right_side.result.now c.finite.result c.tightest.result
    grows.1 grows.2 c.right_side.ensures c.tightest.ensures.tightest c.finite.ensures

pub returns-in-None : goal.returns-in-None
returns-in-None c =
    elim c.in-None.ensures [
      | inl none ↦ no_growth c.args.task.now.places c.args.pre.now c.args.fluent c.args.change.now none
      | inr still ↦ no_side c.args.task.now.places c.args.pre.now c.args.fluent c.args.change.now still.0 still.1 still.2
    ]
