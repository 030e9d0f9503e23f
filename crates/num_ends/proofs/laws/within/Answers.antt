use Rattle.num_ends.proofs.Members.{has_within}
use Rattle.num_ends.proofs.Meetings.{members_within}
use Rattle.num_ends.proofs.laws.within.Goals as goal

pub returns : goal.returns
returns c = λ i j hi. (λ w d. has_within i j d w, members_within i j hi)
