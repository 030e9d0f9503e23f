use Rattle.num_ends.proofs.Meetings.{meet_less, less_met, meet_at_most, at_most_met, meet_equal, equal_met}
use Rattle.num_ends.proofs.laws.meetings.Goals as goal

pub returns : goal.returns
returns c = record {
  less = λ i j hi hj. (meet_less i j hi hj, λ m. less_met i j m.0 m.1 m.2 m.3 m.4);
  at_most = λ i j hi hj. (meet_at_most i j hi hj, λ m. at_most_met i j m.0 m.1 m.2 m.3 m.4);
  equal = λ i j hi hj. (meet_equal i j hi hj, λ m. equal_met i j m.0 m.1 m.2);
}
