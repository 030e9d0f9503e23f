use Rattle.std.proofs.Common.{◌≡◌, length}
use Rattle.dead_rows.specs.Seats.{IsSeatOf, claims_of}
use Rattle.store_tests.proofs.dead_boxes.fill.Given as goal

abbrev pub invariant-turns : goal.invariant-turns
invariant-turns l = record {
  seat : IsSeatOf l.fn.store l.seat;
  claims : length (claims_of l.seat) ≡ l._turn;
}
