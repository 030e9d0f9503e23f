use Rattle.std.proofs.Common.{◌≡◌, drop}
use Rattle.std.specs.Prelude.{flat_map}
use Rattle.pddl_types.specs.declared.pairs.Sort.TheVariants.{Function}
use Rattle.pddl_types.specs.Faults.{with_faults}
use Rattle.pddl_types.specs.UseFaults.{atom_faults}
use Rattle.pddl_types.proofs.entries.note_fluents.Given as goal

abbrev pub invariant-each : goal.invariant-each
invariant-each l =
    with_faults l.notes.first (flat_map (λ v. atom_faults l.scope.named.now l.scope.side l.scope.params.now Function v.0) (drop l.value-index l.values))
    ≡ with_faults l.initial.notes.first (flat_map (λ v. atom_faults l.scope.named.now l.scope.side l.scope.params.now Function v.0) l.values)
