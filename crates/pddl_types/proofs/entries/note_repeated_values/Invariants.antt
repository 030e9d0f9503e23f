use Rattle.std.proofs.Common.{◌≡◌, [], drop}
use Rattle.pddl_types.specs.Faults.{with_faults}
use Rattle.pddl_types.specs.UseFaults.{repeated_values}
use Rattle.pddl_types.proofs.entries.note_repeated_values.Given as goal

abbrev pub invariant-each : goal.invariant-each
invariant-each l = with_faults l.notes.first (repeated_values l.valued (drop l.value-index l.values)) ≡ with_faults l.initial.notes.first (repeated_values [] l.values)
