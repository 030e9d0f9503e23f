use Rattle.std.proofs.Common.{◌≡◌, ◌≤◌, drop, map, min}
use Rattle.simple_atoms.specs.declared.linear.TheConstants.{FAR}
use Rattle.subgoal.specs.Equations.{least_of}
use Rattle.subgoal.specs.Leaves.{reached_at}
use Rattle.subgoal.specs.Unmet.{help_by_value}
use Rattle.subgoal.proofs.atoms.least_by_gains.Given as goal

abbrev pub invariant-each : goal.invariant-each
invariant-each l =
    record {
      whole : min l.least (least_of (map (reached_at (help_by_value l.valued.form.now l.valued.value) l.actions l.values) (drop l.k l.helpers)))
          ≡ least_of (map (reached_at (help_by_value l.valued.form.now l.valued.value) l.actions l.values) l.helpers);
      near : l.least ≤ FAR;
    }
