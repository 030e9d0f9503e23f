use Rattle.std.proofs.Common.{ℕ, ◌<◌, slice_index_or, IsTrue}
use Rattle.num_ends.specs.Ends.{is_within, whole_line}
use Rattle.box_model.proofs.states.fluents_within.Given as goal

abbrev pub invariant-each : goal.invariant-each
invariant-each l = (x : ℕ) → x < l.i → IsTrue (is_within (slice_index_or l.fluents x whole_line) (slice_index_or l.others x whole_line))
