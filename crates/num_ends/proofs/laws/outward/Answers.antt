use Rattle.std.proofs.Common.{ap₂}
use Rattle.num_ends.specs.declared.ends.End.{End}
use Rattle.num_ends.proofs.OutwardSteps.{outward_around, lower_at_places, upper_at_places}
use Rattle.num_ends.proofs.Widening.{outward_wider, lower_kept, upper_kept}
use Rattle.num_ends.proofs.laws.outward.Goals as goal

pub returns : goal.returns
returns c = record {
  around = λ q i h. outward_around q i h.lower h.upper;
  wider = outward_wider;
  kept = λ q i h k. ap₂ (λ (l u : End). (l, u)) (lower_kept q i.0 h) (upper_kept q i.1 k);
  lower_places = λ q i. lower_at_places q i.0;
  upper_places = λ q i. upper_at_places q i.1;
}
