use Rattle.num_ends.specs.Ends.{is_within, whole_line}
use Rattle.kept_boxes.proofs.Lies.{IsWiderSoFar}
use Rattle.kept_boxes.proofs.hull.widen_fluents.Given as goal

abbrev pub invariant-each : goal.invariant-each
invariant-each l = IsWiderSoFar is_within whole_line l.i l.initial.fluents l.others l.fluents
