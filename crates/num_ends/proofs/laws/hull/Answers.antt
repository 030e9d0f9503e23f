use Rattle.num_ends.proofs.Members.{within_hull_first, within_hull_second, hull_least}
use Rattle.num_ends.proofs.laws.hull.Goals as goal

pub returns : goal.returns
returns c = record { first = within_hull_first; second = within_hull_second; least = hull_least }
