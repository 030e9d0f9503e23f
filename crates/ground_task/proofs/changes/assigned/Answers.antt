use Rattle.std.proofs.Common.{◌≡◌, ℕ, subst}
use Rattle.num_ends.specs.Decimal.{aligned, number_at, InRange}
use Rattle.ground_task.proofs.NewValues.{assigned_given}
use Rattle.ground_task.proofs.changes.assigned.Goals as goal

pub returns-in-Ok-clause-given : goal.returns-in-Ok-clause-given
returns-in-Ok-clause-given c =
    assigned_given c.args.task.now c.args.state.now c.args.fluent c.args.expr.now c.in-Some.value c.in-Ok.value c.in-Some.ensures
    (subst (λ (q : ℕ). c.in-Ok.value ≡ aligned q c.in-Some.value) c.places.ensures.value c.in-Ok.ensures.0)
    (subst (λ (q : ℕ). InRange (number_at q c.in-Some.value)) c.places.ensures.value c.in-Ok.ensures.1)
