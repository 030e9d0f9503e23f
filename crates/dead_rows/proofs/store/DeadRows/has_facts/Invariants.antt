use Rattle.std.proofs.Common.{◌≡◌, ℕ, ◌<◌, false, IsTrue, slice_index_or}
use Rattle.box_model.specs.Boxes.{may_be}
use Rattle.box_words.specs.Words.{fact_at}
use Rattle.dead_rows.specs.Seats.{store_id, CanRead, row_words}
use Rattle.dead_rows.proofs.store.DeadRows.has_facts.Given as goal

abbrev pub invariant-facts : goal.invariant-facts
invariant-facts l = record {
  seat : CanRead (store_id l.fn.self) l.seat l.fn.row;
  view : l.seat.me.0 ≡ l.fn.seat.me.0;
  all : (f : ℕ) → f < l.fact → IsTrue (may_be (fact_at (row_words l.fn.seat l.fn.row) f) (slice_index_or l.fn.state.facts f false));
}
