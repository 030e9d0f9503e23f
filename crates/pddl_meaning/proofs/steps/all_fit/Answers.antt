use Rattle.std.proofs.Common.{◌⊎◌, ◌≤◌, inl, inr, length, arith, ◌∙◌}
use Rattle.pddl_meaning.proofs.Places.{all_compared}
use Rattle.pddl_meaning.proofs.steps.all_fit.Goals as goal
use Rattle.pddl_meaning.proofs.steps.all_fit.Goals.{then-each-test+else-place-args, else-each-test}

pub returns : goal.returns
returns c =
    let ended : (length c.args.params.now ≤ c.each.place) ⊎ (length c.args.args.now ≤ c.each.place) =
    elim c.each-test.branch [ then-each-test+else-place-args w ↦ inr (omega arith) | else-each-test w ↦ inl (omega arith) ] in
    all_compared c.args.checked.now c.args.params.now c.args.args.now c.each.place c.each.invariant.1 c.each.invariant.2 ended ∙ c.each.invariant.0
