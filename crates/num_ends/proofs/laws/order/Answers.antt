use Rattle.num_ends.proofs.DecimalOrder.{less_trans, most_trans, less_most_trans, most_less_trans, most_is_not_less, most_both_same, same_is_most, same_back}
use Rattle.num_ends.proofs.laws.order.Goals as goal

pub returns : goal.returns
returns c = record {
  less = less_trans;
  at_most = most_trans;
  less_at_most = less_most_trans;
  at_most_less = most_less_trans;
  total = most_is_not_less;
  same = λ a b. (λ h. (same_is_most a b h, same_is_most b a (same_back a b h)), λ h. most_both_same a b h.0 h.1);
}
