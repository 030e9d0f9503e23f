use Rattle.read_back.proofs.SameBoxes.{contains_before, dead_before, same_contains, same_dead}
use Rattle.read_back.proofs.SameGoods.{good_before, good_too}
use Rattle.read_back.proofs.laws.fewest_places_change_nothing.Goals as goal

pub returns-clause-contains : goal.returns-clause-contains
returns-clause-contains c = λ places b s. (contains_before places b s, same_contains places b s)

pub returns-clause-dead : goal.returns-clause-dead
returns-clause-dead c = λ t b. (dead_before t b, same_dead t b)

pub returns-clause-good : goal.returns-clause-good
returns-clause-good c = λ t boxes states. (good_before t boxes states, good_too t boxes states)
