use Rattle.std.proofs.Common.{◌≡◌, ◌++◌, drop, map}
use Rattle.subgoal.specs.Leaves.{gain_at}
use Rattle.subgoal.proofs.leaves.gains_of_form.Given as goal

abbrev pub invariant-each : goal.invariant-each
invariant-each l = l.gains ++ map (gain_at l.actions l.form) (drop l.helper-index l.helpers) ≡ map (gain_at l.actions l.form) l.helpers
