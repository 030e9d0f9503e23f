use Rattle.std.proofs.Common.{◌<◌, ℕ, false, slice_index_or, IsTrue}
use Rattle.box_model.specs.Boxes.{may_be}
use Rattle.box_model.specs.declared.state_box.May.TheVariants.{Any}
use Rattle.kept_boxes.proofs.hull.have_facts.Given as goal

abbrev pub invariant-each : goal.invariant-each
invariant-each l = (f : ℕ) → f < l.fact → IsTrue (may_be (slice_index_or l.facts f Any) (slice_index_or l.state.facts f false))
