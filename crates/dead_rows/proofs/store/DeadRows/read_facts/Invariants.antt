use Rattle.std.proofs.Common.{◌≡◌, ◌≤◌, map, vec_capacity, length}
use Rattle.std.specs.List.{range_with_len}
use Rattle.box_words.specs.Words.{fact_at}
use Rattle.dead_rows.specs.Seats.{store_id, CanRead, row_words}
use Rattle.dead_rows.proofs.store.DeadRows.read_facts.Given as goal

abbrev pub invariant-facts : goal.invariant-facts
invariant-facts l = record {
  seat : CanRead (store_id l.fn.self) l.seat l.fn.row;
  view : l.seat.me.0 ≡ l.fn.seat.me.0;
  count : length l.facts.items ≡ l.fact;
  room : l.fn.self.shape.facts ≤ vec_capacity l.facts;
  read : l.facts.items ≡ map (fact_at (row_words l.fn.seat l.fn.row)) (range_with_len 0 l.fact);
}
