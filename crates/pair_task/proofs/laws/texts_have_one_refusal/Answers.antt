use Rattle.pair_task.proofs.EachAnswered.{one_grounding_refusal, one_task_refusal}
use Rattle.pair_task.proofs.laws.texts_have_one_refusal.Goals as goal

pub returns-clause-grounding : goal.returns-clause-grounding
returns-clause-grounding c = λ domain problem refusal other few fewer. one_grounding_refusal domain problem few fewer refusal other

pub returns-clause-any : goal.returns-clause-any
returns-clause-any c = λ domain problem refusal other few fewer. one_task_refusal domain problem few fewer refusal other
