use Rattle.std.proofs.Common.{◌≡◌, ℕ, ◌-◌, ◌≤◌, [], length}
use mathlib.Core.Option.{some}
use lib.ListN.{get_elem?}
use Rattle.std.specs.Prelude.{vec_capacity}
use Rattle.bound_words.specs.declared.seat.RelaxSeat.{RelaxSeat}
use Rattle.bound_words.specs.Protocol.{from, fresh_view}
use Rattle.bound_words.specs.Seats.{IsNewSeat}
use Rattle.bound_words.proofs.room.deal.Given as goal

abbrev pub invariant-loop-number : goal.invariant-loop-number
invariant-loop-number g l = record {
  same_table : l.rest.table_id ≡ l.fn.seat.table_id;
  rest : l.rest.me ≡ (fresh_view l.fn.start (from l.number (l.fn.seats - l.number)), []);
  count : length l.list.items ≡ l.number;
  room : l.fn.seats ≤ vec_capacity l.list;
  each : (i : ℕ) (s : RelaxSeat) → get_elem? l.list.items i ≡ some s → IsNewSeat (g.S.System.terms l.fn.shared.key.system.value) l.fn.start l.fn.shared.table_id i s;
}
