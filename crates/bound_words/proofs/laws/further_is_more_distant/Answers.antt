use Rattle.bound_words.proofs.Distances.{further_is_more_distant}
use Rattle.bound_words.proofs.laws.further_is_more_distant.Goals as goal

pub returns : goal.returns
returns c = further_is_more_distant
