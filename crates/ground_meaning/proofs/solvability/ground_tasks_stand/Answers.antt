use Rattle.ground_meaning.proofs.FirstStanding.{initial_stands}
use Rattle.ground_meaning.proofs.StandsWhole.{stands_for}
use Rattle.ground_meaning.proofs.solvability.ground_tasks_stand.Goals as goal

pub returns : goal.returns
returns c = λ p t readable formed task placed. stands_for p readable formed t task placed (λ st initial. initial_stands p readable formed t task st initial)
