use Rattle.ground_meaning.proofs.GoalTruth.{same_goal}
use Rattle.ground_meaning.proofs.laws.goals_agree.Goals as goal

pub returns : goal.returns
returns c = λ p t readable formed task w st at. same_goal p readable formed t task w st at
