use Rattle.box_model.proofs.ReadLemmas.{lower_top, upper_bottom}
use Rattle.box_model.proofs.caps.Side.innermost.Goals as goal

pub returns-in-Upper-clause-covered : goal.returns-in-Upper-clause-covered
returns-in-Upper-clause-covered c = λ e. rw c.in-Upper.is (upper_bottom e)

pub returns-in-Lower-clause-covered : goal.returns-in-Lower-clause-covered
returns-in-Lower-clause-covered c = λ e. rw c.in-Lower.is (lower_top e)
