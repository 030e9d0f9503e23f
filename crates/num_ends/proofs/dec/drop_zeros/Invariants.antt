use Rattle.std.proofs.Common.{◌≡◌, ◌≤◌, pos}
use Rattle.num_ends.specs.Decimal.{without_zeros}
use Rattle.num_ends.proofs.dec.drop_zeros.Given as goal

abbrev pub invariant-loop-p : goal.invariant-loop-p
invariant-loop-p l =
    (without_zeros l.fn.p (pos l.fn.magnitude) ≡ without_zeros l.p (pos l.magnitude)) × (l.magnitude ≤ l.fn.magnitude) × (l.p ≤ l.fn.p)

abbrev pub decreases-loop-p : goal.decreases-loop-p
decreases-loop-p l = l.p
