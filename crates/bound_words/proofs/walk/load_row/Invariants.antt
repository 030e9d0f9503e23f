use Rattle.std.proofs.Common.{◌≡◌, []}
use Rattle.bound_words.specs.Turns.{IsLoadedTo}
use Rattle.bound_words.proofs.walk.load_row.Given as goal

abbrev pub invariant-loop-word : goal.invariant-loop-word
invariant-loop-word g l = record {
  same_table : l.seat.table_id ≡ l.fn.seat.table_id;
  same_id : l.seat.id ≡ l.fn.seat.id;
  no_slot : l.seat.me.1 ≡ [];
  loaded : IsLoadedTo (g.S.System.terms l.fn.shared.key.system.value) l.fn.seat.me.0 l.row l.word l.seat.me.0;
}
