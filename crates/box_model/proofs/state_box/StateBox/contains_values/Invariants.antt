use Rattle.std.proofs.Common.{ℕ, ◌<◌, IsTrue}
use Rattle.num_ends.specs.Ends.{has}
use Rattle.ground_task.specs.Meaning.{fluent_value}
use Rattle.box_model.specs.Boxes.{fluent_in}
use Rattle.box_model.proofs.state_box.StateBox.contains_values.Given as goal

abbrev pub invariant-each : goal.invariant-each
invariant-each l = (x : ℕ) → x < l.fluent → IsTrue (has (fluent_in l.self x) (fluent_value l.task.places l.state x))
