use Rattle.std.proofs.Common.{◌≡◌, ◌++◌, drop}
use Rattle.subgoal.specs.Help.{makes}
use Rattle.subgoal.specs.Leaves.{numbers_of}
use Rattle.subgoal.proofs.leaves.literal_helpers.Given as goal

abbrev pub invariant-each : goal.invariant-each
invariant-each l = l.numbers ++ numbers_of (makes l.fact l.truth) l.i (drop l.i l.actions) ≡ numbers_of (makes l.fact l.truth) 0 l.actions
