-- What a clause reads of a lock, and of a value that is out of it.
use Rattle.std.specs.Prelude.{◌≡◌, ℕ, List, All, map}
use Rattle.atomic_table.specs.Seated.{TableId}
use Rattle.turn_lock.specs.History.{Journal}
use Rattle.turn_lock.specs.declared.turn.Turn.{Turn}
use Rattle.turn_lock.specs.declared.turn.Held.{Held}
use Rattle.turn_lock.specs.declared.seat.TurnSeat.{TurnSeat}
use Rattle.turn_lock.specs.Words.{numbers_from, seen_in, known_in}
use Rattle.turn_lock.specs.Seats.{worker_of, lock_of_seat}

module _ {T : Type 0} where
  -- the value that the lock was made of, whose terms are the lock's
  abbrev pub origin : Turn T → T
  origin lock = lock.table.shared.key.origin.value

  abbrev pub seats_of : Turn T → ℕ
  seats_of lock = lock.table.shared.key.seats

  abbrev pub lock_id : Turn T → TableId
  lock_id lock = lock.table.shared.table_id

  -- the list has, in order, the seat of each worker number that the lock gave
  abbrev pub AreAllSeats : Turn T → List TurnSeat → Type 0
  AreAllSeats lock seats = (map worker_of seats ≡ numbers_from 0 (seats_of lock)) × All (λ seat. lock_of_seat seat ≡ lock_id lock) seats

  -- the worker that has the value
  abbrev pub holder_of : Held T → ℕ
  holder_of held = held.hand.worker

  -- the journal of the value as it was taken
  abbrev pub taken_of : Held T → Journal
  taken_of held = seen_in held.hand.place.me.0

  -- how many entries the history has at least, as the lock counted it for that worker before it took the value
  abbrev pub known_by_holder : Held T → ℕ
  known_by_holder held = known_in held.hand.place.me.0

  abbrev pub lock_of_held : Held T → TableId
  lock_of_held held = held.hand.place.table_id
