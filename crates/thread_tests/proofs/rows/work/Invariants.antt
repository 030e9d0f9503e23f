use Rattle.std.proofs.Common.{◌≡◌, length}
use Rattle.word_rows.specs.Tables.{id_of, IsIdle}
use Rattle.thread_tests.proofs.rows.work.Given as goal

abbrev pub invariant-turns : goal.invariant-turns
invariant-turns l = record {
  seat : IsIdle (id_of l.fn.rows) l.seat;
  claims : length l.seat.me.0.claims ≡ l.turn;
}
