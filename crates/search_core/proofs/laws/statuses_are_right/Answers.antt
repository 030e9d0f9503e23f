use Rattle.search_core.proofs.Meaning.{statuses_right}
use Rattle.search_core.proofs.laws.statuses_are_right.Goals as goal

pub returns : goal.returns
returns c = statuses_right
