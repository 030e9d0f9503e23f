use Rattle.ground_meaning.proofs.SomeTask.{some_answer}
use Rattle.ground_meaning.proofs.uniqueness.some_answer.Goals as goal

pub returns : goal.returns
returns c = λ p readable formed. some_answer p readable formed
