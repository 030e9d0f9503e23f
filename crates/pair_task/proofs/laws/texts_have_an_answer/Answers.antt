use Rattle.pair_task.proofs.EachAnswered.{accepted_or_refused, task_or_reason}
use Rattle.pair_task.proofs.laws.texts_have_an_answer.Goals as goal

pub returns-clause-grounding : goal.returns-clause-grounding
returns-clause-grounding c = λ domain problem few fewer. task_or_reason domain problem few fewer

pub returns-clause-any : goal.returns-clause-any
returns-clause-any c = λ domain problem few fewer. accepted_or_refused domain problem few fewer
