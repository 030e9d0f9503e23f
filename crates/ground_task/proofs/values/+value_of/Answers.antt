use Rattle.std.proofs.Common.{subst, ap, ◌∙◌}
use Rattle.ground_task.specs.Inside.{IsEvaluable}
use Rattle.ground_task.specs.Ranged.{ranged_value}
use Rattle.ground_task.proofs.Evaluable.{few_Mul}
use Rattle.ground_task.proofs.values.+value_of.Goals as goal

pub product-requires : goal.product-requires
product-requires t c =
    let whole = subst (IsEvaluable c.args.task.now) c.in-Mul.is c.requires.evaluable in
    let first = c.in_ok-a-in-Mul.ensures ∙ ap (ranged_value c.args.task.now.places c.args.state.now) c.get-in-Mul.ensures in
    let second = c.in_ok-b-in-Mul.ensures ∙ ap (ranged_value c.args.task.now.places c.args.state.now) c.get-in-Mul-2.ensures in
    record { few = few_Mul c.args.task.now c.in-Mul.a c.in-Mul.b c.args.state.now c.in_ok-a-in-Mul.a c.in_ok-b-in-Mul.b whole first second }
