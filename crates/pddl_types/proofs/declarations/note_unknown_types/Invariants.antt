use Rattle.std.proofs.Common.{◌≡◌, drop}
use Rattle.pddl_types.specs.Faults.{with_faults}
use Rattle.pddl_types.specs.DeclarationFaults.{unknown_types}
use Rattle.pddl_types.proofs.declarations.note_unknown_types.Given as goal

abbrev pub invariant-each : goal.invariant-each
invariant-each l = with_faults l.notes.first (unknown_types l.named.domain.types l.side (drop l.item-index l.items)) ≡ with_faults l.initial.notes.first (unknown_types l.named.domain.types l.side l.items)
