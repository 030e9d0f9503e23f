use Rattle.std.proofs.Common.{ap, ◌∙◌}
use Rattle.num_ends.specs.Decimal.{Decimal}
use Rattle.ground_task.specs.Ranged.{ranged_sum}
use Rattle.ground_task.proofs.NewValues.{added_where_given}
use Rattle.ground_task.proofs.changes.added.Goals as goal

pub returns-in-Some-clause-given : goal.returns-in-Some-clause-given
returns-in-Some-clause-given c =
    added_where_given c.args.task.now c.args.state.now c.args.fluent c.args.expr.now c.in-Some.value c.sum.result c.requires.effect c.in-Some.ensures
    (c.sum.ensures ∙ ap (λ (f : Decimal). ranged_sum f c.in-Some.value) c.fluent_value.ensures)
