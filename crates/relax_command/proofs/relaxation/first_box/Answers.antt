use Rattle.std.proofs.Common.{◌∙◌, length, ap}
use Rattle.ground_task.specs.States.{StateValue}
use Rattle.ground_task.proofs.FirstState.{facts_of_first, values_of_first}
use Rattle.relax_command.proofs.relaxation.first_box.Goals as goal

pub least_box-requires-clause-facts : goal.least_box-requires-clause-facts
least_box-requires-clause-facts c =
    ap (λ (s : StateValue). length s.facts) c.first.ensures.value ∙ facts_of_first c.args.task.now.raw c.args.task.now.places

pub least_box-requires-clause-values : goal.least_box-requires-clause-values
least_box-requires-clause-values c =
    ap (λ (s : StateValue). length s.values) c.first.ensures.value ∙ values_of_first c.args.task.now.raw c.args.task.now.places
