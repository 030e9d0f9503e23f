use Rattle.std.proofs.Common.{take}
use Rattle.std.specs.Prelude.{flat_map}
use Rattle.ground_meaning.specs.Outcomes.{schema_outcomes}
use Rattle.grounder.specs.internal.Taken.{IsTaken}
use Rattle.grounder.proofs.kept.take_schemas.Given as goal

abbrev pub invariant-each : goal.invariant-each
invariant-each l = IsTaken (flat_map (schema_outcomes l.checked) (take l.number l.checked.domain.schemas)) l.initial.actions.items l.actions.items
