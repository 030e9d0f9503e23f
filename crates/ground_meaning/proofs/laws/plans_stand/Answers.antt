use Rattle.ground_meaning.proofs.Plans.{plan_stands}
use Rattle.ground_meaning.proofs.laws.plans_stand.Goals as goal

pub returns : goal.returns
returns c = λ p t readable formed task placed w st steps at plan. plan_stands p readable formed t task placed w st steps at plan
