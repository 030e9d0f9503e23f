use Rattle.std.proofs.Common.{◌≡◌}
use Rattle.turn_lock.specs.Seats.{lock_of_seat}
use Rattle.turn_lock.specs.Locks.{lock_id}
use Rattle.thread_tests.proofs.diaries.turn_often.Given as goal

abbrev pub invariant-turns : goal.invariant-turns
invariant-turns g l = (lock_of_seat l.seat ≡ lock_id l.fn.turn) × (l.seat.worker ≡ l.fn.seat.worker)
