use Rattle.std.proofs.Common.{◌≡◌, ◌+◌, ◌*◌, false, cond, length, sum}
use Rattle.subgoal.specs.Estimates.{AreValues}
use Rattle.subgoal.specs.Help.{atoms_in}
use Rattle.subgoal.specs.Network.{weights_by, AreZeros}
use Rattle.subgoal.specs.Unmet.{IsAbove}
use Rattle.subgoal.proofs.rounds.settle.Given as goal

abbrev pub invariant-rounds : goal.invariant-rounds
invariant-rounds l =
    record {
      above : IsAbove (atoms_in l.rules.task.now l.state) l.rules.task.now.raw.actions l.values.items;
      weights : length l.weights.items ≡ length l.rules.network.now.atoms.items;
      next : length l.next.items ≡ length l.rules.task.now.raw.actions;
      zeros : AreZeros (atoms_in l.rules.task.now l.state) l.rules.task.now.raw.actions l.values.items l.rules.network.now.atoms.items l.weights.items;
      weighed : l.lowered ≡ false → l.weights.items ≡ weights_by (atoms_in l.rules.task.now l.state) l.rules.task.now.raw.actions l.values.items l.rules.network.now.atoms.items;
      solved : l.lowered ≡ false → AreValues l.rules.task.now l.state l.values.items;
    }

abbrev pub decreases-rounds : goal.decreases-rounds
decreases-rounds l = 2 * sum l.values.items + cond l.lowered 1 0
