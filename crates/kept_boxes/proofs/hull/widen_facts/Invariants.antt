use Rattle.box_model.specs.Boxes.{is_may_within}
use Rattle.box_model.specs.declared.state_box.May.TheVariants.{Any}
use Rattle.kept_boxes.proofs.Lies.{IsWiderSoFar}
use Rattle.kept_boxes.proofs.hull.widen_facts.Given as goal

abbrev pub invariant-each : goal.invariant-each
invariant-each l = IsWiderSoFar is_may_within Any l.i l.initial.facts l.others l.facts
