use Rattle.std.proofs.Common.{◌≡◌, [], ◌++◌, map, All}
use Rattle.turn_lock.specs.Words.{waiting}
use Rattle.turn_lock.specs.Seats.{lock_of_seat, mark_of}
use Rattle.turn_lock.specs.Locks.{lock_id}
use Rattle.turn_lock.proofs.turn.Turn.gather.Given as goal

abbrev pub invariant-seats : goal.invariant-seats
invariant-seats g l = (l.place.table_id ≡ lock_id l.fn.self) × (l.place.me ≡ (waiting l.place.me.0.marks, [])) × (map mark_of l.seats.items ++ l.place.me.0.marks ≡ map mark_of l.fn.seats.items)
    × All (λ seat. lock_of_seat seat ≡ lock_id l.fn.self) l.seats.items

abbrev pub decreases-seats : goal.decreases-seats
decreases-seats g l = goal.left-seats g l
