use Rattle.std.proofs.Common.{rules}
use Rattle.num_ends.proofs.SamePlaces.{sum_found}
use Rattle.num_ends.proofs.dec.Dec.add.Goals as goal

pub returns-then-self-other : goal.returns-then-self-other
returns-then-self-other c = sum_found c.add_numbers.result c.args.self c.args.other (search rules) (search rules) (search rules) c.add_numbers.ensures
