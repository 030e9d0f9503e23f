use Rattle.num_ends.specs.Decimal.{trimmed as trimmed_of}
use Rattle.num_ends.proofs.Trimmed.{same_trimmed, trimmed_same, trimmed_twice, fewest_places}
use Rattle.num_ends.proofs.laws.trimmed.Goals as goal

pub returns : goal.returns
returns c = record {
  same = λ a b. (same_trimmed a b, trimmed_same a b);
  value = λ d. trimmed_same (trimmed_of d) d (trimmed_twice d);
  again = trimmed_twice;
  fewest = fewest_places;
}
