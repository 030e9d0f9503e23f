use Rattle.std.proofs.Common.{◌≡◌, drop}
use Rattle.pddl_types.specs.Faults.{with_faults}
use Rattle.pddl_types.specs.DeclarationFaults.{cyclic_types}
use Rattle.pddl_types.proofs.declarations.note_cycles.Given as goal

abbrev pub invariant-each : goal.invariant-each
invariant-each l = with_faults l.notes.first (cyclic_types l.cycles (drop l.item-index l.items)) ≡ with_faults l.initial.notes.first (cyclic_types l.cycles l.items)
