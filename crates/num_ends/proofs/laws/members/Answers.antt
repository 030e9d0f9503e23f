use Rattle.num_ends.proofs.Members.{inhabited_has, has_inhabited}
use Rattle.num_ends.proofs.laws.members.Goals as goal

pub returns : goal.returns
returns c = λ i. (inhabited_has i, λ m. has_inhabited i m.0 m.1)
