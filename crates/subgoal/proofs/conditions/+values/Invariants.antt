use Rattle.std.proofs.Common.{◌+◌, ◌≤◌, List, ℕ, min, sum}
use Rattle.simple_atoms.specs.declared.linear.TheConstants.{FAR}
use Rattle.subgoal.specs.Equations.{least_of}
use Rattle.subgoal.specs.Network.{picked}
use Rattle.subgoal.proofs.Reading.{AreLeft}
use Rattle.subgoal.proofs.conditions.+values.Given as goal

abbrev pub invariant-all-each : goal.invariant-all-each
invariant-all-each l =
    record {
      left : AreLeft (picked l.reading.weights.now l.reading.numbers.now) l.fn.at l.conds l.cond-index l.next (λ (ns : List ℕ). min FAR (l.total + sum ns)) (λ (ns : List ℕ). min FAR (sum ns));
      near : l.total ≤ FAR;
    }

abbrev pub invariant-any-each : goal.invariant-any-each
invariant-any-each l =
    record {
      left : AreLeft (picked l.reading.weights.now l.reading.numbers.now) l.fn.at l.conds l.cond-index l.next (λ (ns : List ℕ). min l.least (least_of ns)) least_of;
      near : l.least ≤ FAR;
    }
