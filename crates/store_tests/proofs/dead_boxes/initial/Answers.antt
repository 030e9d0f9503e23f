use Rattle.std.proofs.Common.{length, ap, ◌∙◌}
use Rattle.ground_task.specs.States.{StateValue}
use Rattle.ground_task.proofs.FirstState.{facts_of_first, values_of_first}
use Rattle.store_tests.proofs.dead_boxes.initial.Goals as goal

pub returns-clause-facts : goal.returns-clause-facts
returns-clause-facts c = ap (λ (s : StateValue). length s.facts) c.first.ensures.value ∙ facts_of_first c.args.task.now.raw c.args.task.now.places ∙ c.requires.0

pub returns-clause-values : goal.returns-clause-values
returns-clause-values c = ap (λ (s : StateValue). length s.values) c.first.ensures.value ∙ values_of_first c.args.task.now.raw c.args.task.now.places ∙ c.requires.1
