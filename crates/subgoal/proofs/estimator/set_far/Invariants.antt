use Rattle.std.proofs.Common.{◌≡◌, ◌<◌, ℕ, get_or, length}
use Rattle.simple_atoms.specs.declared.linear.TheConstants.{FAR}
use Rattle.subgoal.proofs.estimator.set_far.Given as goal

abbrev pub invariant-each : goal.invariant-each
invariant-each l =
    record {
      as_many : length l.values.items ≡ length l.fn.values.items;
      far : (k : ℕ) → k < l.i → get_or l.values.items k 0 ≡ FAR;
    }
