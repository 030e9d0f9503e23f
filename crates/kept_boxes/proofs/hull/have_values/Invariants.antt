use Rattle.std.proofs.Common.{◌<◌, ℕ, slice_index_or, IsTrue}
use Rattle.num_ends.specs.Ends.{has, whole_line}
use Rattle.ground_task.specs.Meaning.{fluent_value}
use Rattle.kept_boxes.proofs.hull.have_values.Given as goal

abbrev pub invariant-each : goal.invariant-each
invariant-each l = (x : ℕ) → x < l.fluent → IsTrue (has (slice_index_or l.fluents x whole_line) (fluent_value l.task.places l.state x))
