use Rattle.turn_lock.proofs.Histories.{front}
use Rattle.turn_lock.proofs.laws.counts_are_lengths.Goals as goal

pub returns : goal.returns
returns c = front
