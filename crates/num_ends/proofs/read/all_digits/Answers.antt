use Rattle.num_ends.proofs.Numerals.{digits_all}
use Rattle.num_ends.proofs.read.all_digits.Goals as goal

pub returns : goal.returns
returns c = digits_all c.args.text.now c.digit_count.result c.digit_count.ensures.within c.digit_count.ensures.front c.digit_count.ensures.stop
