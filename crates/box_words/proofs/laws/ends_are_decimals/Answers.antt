use Rattle.box_words.proofs.Decoding.{lower_is_end, upper_is_end}
use Rattle.box_words.proofs.laws.ends_are_decimals.Goals as goal

pub returns-clause-lower : goal.returns-clause-lower
returns-clause-lower c = lower_is_end

pub returns-clause-upper : goal.returns-clause-upper
returns-clause-upper c = upper_is_end
