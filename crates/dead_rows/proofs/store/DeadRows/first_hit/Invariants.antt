use Rattle.dead_rows.specs.Seats.{task_of, IsSeatOf}
use Rattle.dead_rows.specs.Knowledge.{IsLater}
use Rattle.dead_rows.specs.Looks.{ArePassed}
use Rattle.dead_rows.proofs.store.DeadRows.first_hit.Given as goal

abbrev pub invariant-rows : goal.invariant-rows
invariant-rows l = record {
  seat : IsSeatOf l.fn.self l.seat;
  later : IsLater l.fn.seat.me.0 l.seat.me.0;
  passed : ArePassed (task_of l.fn.self) l.fn.state l.fn.seat.me.0 l.seat.me.0 l.row;
}
