use Rattle.std.proofs.Common.{◌≡◌, drop, map}
use Rattle.pddl_types.specs.Faults.{with_faults}
use Rattle.pddl_types.specs.DeclarationFaults.{repeated, with_names}
use Rattle.pddl_types.proofs.declarations.note_repeated.Given as goal

abbrev pub invariant-each : goal.invariant-each
invariant-each l = record {
  faults : with_faults l.notes.first (repeated l.side l.seen (map (λ n. n.now) (drop l.name-index l.names))) ≡ with_faults l.initial.notes.first (repeated l.side l.initial.seen (map (λ n. n.now) l.names));
  after : with_names l.seen (map (λ n. n.now) (drop l.name-index l.names)) ≡ with_names l.initial.seen (map (λ n. n.now) l.names);
}
