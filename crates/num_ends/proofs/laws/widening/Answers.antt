use Rattle.num_ends.proofs.Widening.{sum_wider, difference_wider}
use Rattle.num_ends.proofs.WiderProducts.{product_wider}
use Rattle.num_ends.proofs.laws.widening.Goals as goal

pub returns : goal.returns
returns c = record { sum = sum_wider; difference = difference_wider; product = product_wider }
