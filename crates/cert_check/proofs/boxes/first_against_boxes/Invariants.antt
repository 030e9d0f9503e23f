use Rattle.std.proofs.Common.{ℕ, ◌<◌}
use Rattle.box_model.specs.Least.{IsDead}
use Rattle.box_model.specs.declared.state_box.StateBox.{StateBox}
use Rattle.search_runs.specs.Spaces.{IsAt}
use Rattle.cert_check.proofs.boxes.first_against_boxes.Given as goal

abbrev pub invariant-each : goal.invariant-each
invariant-each l = (k : ℕ) (b : StateBox) → k < l.number → IsAt l.boxes k b → IsDead l.task b
