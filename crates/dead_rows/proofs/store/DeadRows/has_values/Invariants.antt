use Rattle.std.proofs.Common.{◌≡◌, ℕ, ◌<◌, IsTrue}
use Rattle.num_ends.specs.Ends.{has}
use Rattle.ground_task.specs.Meaning.{fluent_value}
use Rattle.box_words.specs.Words.{interval_at}
use Rattle.dead_rows.specs.Seats.{store_id, CanRead, row_words}
use Rattle.dead_rows.proofs.store.DeadRows.has_values.Given as goal

abbrev pub invariant-fluents : goal.invariant-fluents
invariant-fluents l = record {
  seat : CanRead (store_id l.fn.self) l.seat l.fn.row;
  view : l.seat.me.0 ≡ l.fn.seat.me.0;
  all : (x : ℕ) → x < l.fluent → IsTrue (has (interval_at l.fn.self.shape.facts (row_words l.fn.seat l.fn.row) x) (fluent_value l.fn.self.shape.places l.fn.state x));
}
