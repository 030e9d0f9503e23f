use Rattle.ground_meaning.proofs.OneAnswer.{one_answer}
use Rattle.ground_meaning.proofs.uniqueness.one_answer.Goals as goal

pub returns : goal.returns
returns c = λ p readable a b one other. one_answer p readable a b one other
