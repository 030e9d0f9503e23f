use Rattle.std.proofs.Common.{ℕ, ◌<◌, ◌-◌, length}
use Rattle.box_model.specs.Boxes.{Contains}
use Rattle.box_model.specs.declared.state_box.StateBox.{StateBox}
use Rattle.search_runs.specs.Spaces.{IsAt}
use Rattle.kept_boxes.proofs.boxes.KeptBoxes.first.Given as goal

abbrev pub invariant-each : goal.invariant-each
invariant-each l =
    record {
      none : (k : ℕ) (other : StateBox) → k < l.next → IsAt l.self k other → Contains l.task.places other l.state → ⊥;
    }

abbrev pub decreases-each : goal.decreases-each
decreases-each l = length l.self - l.next
