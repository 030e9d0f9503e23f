use Rattle.ground_task.proofs.Places.{places_in_state}
use Rattle.ground_task.proofs.laws.places.Goals as goal

pub returns : goal.returns
returns c = λ t. places_in_state t.places
