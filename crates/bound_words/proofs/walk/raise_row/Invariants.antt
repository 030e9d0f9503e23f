use Rattle.std.proofs.Common.{◌≡◌, []}
use Rattle.bound_words.specs.Turns.{IsRaisedFor}
use Rattle.bound_words.proofs.walk.raise_row.Given as goal

abbrev pub invariant-loop-rule : goal.invariant-loop-rule
invariant-loop-rule g l = record {
  same_table : l.seat.table_id ≡ l.fn.seat.table_id;
  same_id : l.seat.id ≡ l.fn.seat.id;
  no_slot : l.seat.me.1 ≡ [];
  raised : IsRaisedFor (g.S.System.terms l.fn.shared.key.system.value) l.fn.row l.fn.seat.me.0 l.rule l.seat.me.0;
}
