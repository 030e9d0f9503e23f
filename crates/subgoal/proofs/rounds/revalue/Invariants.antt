use Rattle.std.proofs.Common.{◌≡◌, length}
use Rattle.subgoal.specs.Network.{picked}
use Rattle.subgoal.proofs.Improving.{AreRead}
use Rattle.subgoal.proofs.rounds.revalue.Given as goal

abbrev pub invariant-each : goal.invariant-each
invariant-each l =
    record {
      as_many : length l.values.items ≡ length l.actions;
      read : AreRead (picked l.reading.weights.now l.reading.numbers.now) l.fn.at l.actions l.i l.next l.values.items;
    }
