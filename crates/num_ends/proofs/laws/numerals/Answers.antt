use Rattle.num_ends.proofs.Numerals.{numeral_unique}
use Rattle.num_ends.proofs.laws.numerals.Goals as goal

pub returns : goal.returns
returns c = numeral_unique
