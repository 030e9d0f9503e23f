use Rattle.pair_task.proofs.OneAnswer.{no_grounding_refusal, no_refusal}
use Rattle.pair_task.proofs.laws.task_or_refusal.Goals as goal

pub returns-clause-grounding : goal.returns-clause-grounding
returns-clause-grounding c = no_grounding_refusal

pub returns-clause-any : goal.returns-clause-any
returns-clause-any c = no_refusal
