use Rattle.num_ends.proofs.OutwardSteps.{sum_has}
use Rattle.num_ends.proofs.IntervalProducts.{difference_has, product_has}
use Rattle.num_ends.proofs.laws.arithmetic.Goals as goal

pub returns : goal.returns
returns c = record { sum = sum_has; difference = difference_has; product = product_has }
