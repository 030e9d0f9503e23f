use Rattle.std.proofs.Common.{◌≡◌, ◌≤◌, map, vec_capacity, length}
use Rattle.std.specs.List.{range_with_len}
use Rattle.box_words.specs.Words.{interval_at}
use Rattle.dead_rows.specs.Seats.{store_id, CanRead, row_words}
use Rattle.dead_rows.proofs.store.DeadRows.read_fluents.Given as goal

abbrev pub invariant-fluents : goal.invariant-fluents
invariant-fluents l = record {
  seat : CanRead (store_id l.fn.self) l.seat l.fn.row;
  view : l.seat.me.0 ≡ l.fn.seat.me.0;
  count : length l.fluents.items ≡ l.fluent;
  room : length l.fn.self.shape.places ≤ vec_capacity l.fluents;
  read : l.fluents.items ≡ map (interval_at l.fn.self.shape.facts (row_words l.fn.seat l.fn.row)) (range_with_len 0 l.fluent);
}
