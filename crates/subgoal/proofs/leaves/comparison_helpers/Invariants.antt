use Rattle.std.proofs.Common.{◌≡◌, ◌++◌, drop}
use Rattle.subgoal.specs.Leaves.{may_help, numbers_of}
use Rattle.subgoal.proofs.leaves.comparison_helpers.Given as goal

abbrev pub invariant-each : goal.invariant-each
invariant-each l =
    l.numbers ++ numbers_of (may_help l.left l.right l.form) l.i (drop l.i l.actions) ≡ numbers_of (may_help l.left l.right l.form) 0 l.actions
