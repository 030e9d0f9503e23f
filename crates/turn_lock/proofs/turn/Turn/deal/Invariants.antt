use Rattle.std.proofs.Common.{◌≡◌, ◌≤◌, [], ◌++◌, length, map, All, vec_capacity, ◌-◌}
use Rattle.turn_lock.specs.Words.{waiting, marks_from}
use Rattle.turn_lock.specs.Seats.{lock_of_seat, mark_of}
use Rattle.turn_lock.specs.Locks.{origin}
use Rattle.turn_lock.proofs.turn.Turn.deal.Given as goal

abbrev pub invariant-seats : goal.invariant-seats
invariant-seats g l = let J = g.T.Told.journal (origin l.fn.self) in (l.place.table_id ≡ l.fn.place.table_id) × (l.place.me ≡ (waiting (marks_from l.worker (l.fn.seats - l.worker) J), []))
    × (map mark_of l.row.items ++ marks_from l.worker (l.fn.seats - l.worker) J ≡ marks_from 0 l.fn.seats J) × All (λ seat. lock_of_seat seat ≡ l.fn.place.table_id) l.row.items × (length l.row.items ≡ l.worker)
    × (l.fn.seats ≤ vec_capacity l.row)
