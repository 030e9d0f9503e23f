use Rattle.std.proofs.Common.{ℕ, ◌<◌, false, slice_index_or, IsTrue}
use Rattle.box_model.specs.Boxes.{fact_in, may_be}
use Rattle.box_model.proofs.state_box.StateBox.contains_facts.Given as goal

abbrev pub invariant-each : goal.invariant-each
invariant-each l = (f : ℕ) → f < l.fact → IsTrue (may_be (fact_in l.self f) (slice_index_or l.state.facts f false))
