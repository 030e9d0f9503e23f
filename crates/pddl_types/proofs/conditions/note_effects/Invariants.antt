use Rattle.std.proofs.Common.{◌≡◌, drop}
use Rattle.std.specs.Prelude.{flat_map}
use Rattle.pddl_types.specs.Faults.{with_faults}
use Rattle.pddl_types.specs.UseFaults.{effect_faults}
use Rattle.pddl_types.proofs.conditions.note_effects.Given as goal

abbrev pub invariant-each : goal.invariant-each
invariant-each l =
    with_faults l.notes.first (flat_map (effect_faults l.scope.named.now l.scope.side l.scope.params.now) (drop l.effect-index l.effects))
    ≡ with_faults l.initial.notes.first (flat_map (effect_faults l.scope.named.now l.scope.side l.scope.params.now) l.effects)
