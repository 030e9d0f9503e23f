use Rattle.answer_text.proofs.Path.{path_short}
use Rattle.answer_text.proofs.Readings.{plan_read, steps_of}
use Rattle.answer_text.proofs.laws.plans_are_read.Goals as goal

pub returns : goal.returns
returns c = record {
  steps = λ t path valid known few. (let steps = steps_of t path valid known in (steps.0, steps.1, plan_read t path steps.0 few steps.1));
  short = path_short;
}
