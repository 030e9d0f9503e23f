use Rattle.std.proofs.Common.{◌≡◌, drop}
use Rattle.pddl_types.specs.Faults.{with_faults}
use Rattle.pddl_types.specs.DeclarationFaults.{signature_faults}
use Rattle.pddl_types.proofs.declarations.note_signatures.Given as goal

abbrev pub invariant-each : goal.invariant-each
invariant-each l = with_faults l.notes.first (signature_faults l.named.domain.types (drop l.sig-index l.sigs)) ≡ with_faults l.initial.notes.first (signature_faults l.named.domain.types l.sigs)
