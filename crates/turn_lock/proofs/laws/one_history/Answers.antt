use Rattle.turn_lock.proofs.Histories.{one_begins}
use Rattle.turn_lock.proofs.laws.one_history.Goals as goal

pub returns : goal.returns
returns c = one_begins
