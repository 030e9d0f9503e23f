use Rattle.std.proofs.Common.{rules}
use Rattle.num_ends.proofs.SamePlaces.{difference_found}
use Rattle.num_ends.proofs.dec.Dec.sub.Goals as goal

pub returns-then-self-other : goal.returns-then-self-other
returns-then-self-other c = difference_found c.subtract_numbers.result c.args.self c.args.other (search rules) (search rules) (search rules) c.subtract_numbers.ensures
