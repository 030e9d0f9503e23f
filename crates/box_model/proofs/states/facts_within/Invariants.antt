use Rattle.std.proofs.Common.{ℕ, ◌<◌, slice_index_or, IsTrue}
use Rattle.box_model.specs.Boxes.{is_may_within}
use Rattle.box_model.specs.declared.state_box.May.TheVariants.{Any}
use Rattle.box_model.proofs.states.facts_within.Given as goal

abbrev pub invariant-each : goal.invariant-each
invariant-each l = (f : ℕ) → f < l.i → IsTrue (is_may_within (slice_index_or l.facts f Any) (slice_index_or l.others f Any))
