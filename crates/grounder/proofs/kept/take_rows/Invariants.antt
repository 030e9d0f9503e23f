use Rattle.std.proofs.Common.{map, take}
use Rattle.ground_meaning.specs.Outcomes.{outcome}
use Rattle.grounder.specs.internal.Taken.{IsTaken}
use Rattle.grounder.proofs.kept.take_rows.Given as goal

abbrev pub invariant-each : goal.invariant-each
invariant-each g l =
    IsTaken (map (outcome (g.F.Outcomes.pair l.folder) (g.F.Outcomes.schema l.folder)) (take l.number l.rows.1)) l.initial.actions.items l.actions.items
