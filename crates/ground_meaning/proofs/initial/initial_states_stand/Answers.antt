use Rattle.ground_meaning.proofs.FirstStanding.{initial_stands}
use Rattle.ground_meaning.proofs.initial.initial_states_stand.Goals as goal

pub returns : goal.returns
returns c = λ p readable formed t task st is. initial_stands p readable formed t task st is
