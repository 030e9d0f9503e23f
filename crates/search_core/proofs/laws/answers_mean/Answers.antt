use Rattle.search_core.proofs.Meaning.{answers_claim}
use Rattle.search_core.proofs.laws.answers_mean.Goals as goal

pub returns : goal.returns
returns c = answers_claim
