use Rattle.search_core.proofs.Events.{answer_stays}
use Rattle.search_core.proofs.laws.answers_stay.Goals as goal

pub returns : goal.returns
returns c = answer_stays
