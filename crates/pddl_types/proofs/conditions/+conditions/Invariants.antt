use Rattle.std.proofs.Common.{◌≡◌, drop}
use Rattle.std.specs.Prelude.{flat_map}
use Rattle.pddl_types.specs.Faults.{with_faults}
use Rattle.pddl_types.specs.UseFaults.{condition_faults}
use Rattle.pddl_types.proofs.conditions.+conditions.Given as goal

abbrev pub invariant-note_conditions-each : goal.invariant-note_conditions-each
invariant-note_conditions-each l =
    with_faults l.notes.first (flat_map (condition_faults l.scope.named.now l.scope.side l.scope.params.now) (drop l.cond-index l.conds))
    ≡ with_faults l.initial.notes.first (flat_map (condition_faults l.scope.named.now l.scope.side l.scope.params.now) l.conds)
