use Rattle.std.proofs.Common.{◌≡◌, drop}
use Rattle.std.specs.Prelude.{flat_map}
use Rattle.pddl_types.specs.Faults.{with_faults}
use Rattle.pddl_types.specs.Checks.{schema_faults}
use Rattle.pddl_types.proofs.declarations.note_schemas.Given as goal

abbrev pub invariant-each : goal.invariant-each
invariant-each l = with_faults l.notes.first (flat_map (schema_faults l.named) (drop l.schema-index l.schemas)) ≡ with_faults l.initial.notes.first (flat_map (schema_faults l.named) l.schemas)
