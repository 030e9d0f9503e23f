use Rattle.num_ends.proofs.Trimmed.{less_of_trimmed, most_of_trimmed, same_of_trimmed, sum_of_trimmed, difference_of_trimmed, product_of_trimmed}
use Rattle.num_ends.proofs.laws.values.Goals as goal

pub returns : goal.returns
returns c = record {
  less = less_of_trimmed;
  at_most = most_of_trimmed;
  same = same_of_trimmed;
  sum = sum_of_trimmed;
  difference = difference_of_trimmed;
  product = product_of_trimmed;
}
