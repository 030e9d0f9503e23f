use Rattle.num_ends.proofs.Members.{above_covered, below_covered, lower_covers_refl, upper_covers_refl, lower_covers_trans, upper_covers_trans}
use Rattle.num_ends.proofs.laws.ends.Goals as goal

pub returns : goal.returns
returns c = record {
  lower = above_covered;
  upper = below_covered;
  lower_itself = lower_covers_refl;
  upper_itself = upper_covers_refl;
  lower_chain = lower_covers_trans;
  upper_chain = upper_covers_trans;
}
