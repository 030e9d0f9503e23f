-- What a clause reads of a seat.
use Rattle.atomic_table.specs.Seated.{TableId}
use Rattle.turn_lock.specs.History.{Journal}
use Rattle.turn_lock.specs.Words.{mark, seen_in, known_in}
use Rattle.turn_lock.specs.Badges.{view_of}
use Rattle.turn_lock.specs.declared.view.Mark.{Mark}
use Rattle.turn_lock.specs.declared.seat.TurnSeat.{TurnSeat}
use Rattle.std.specs.Prelude.{ℕ}

-- the part of the journal that the seat's worker has seen
abbrev pub seen_by : TurnSeat → Journal
seen_by seat = seen_in (view_of seat.badge.views)

-- how many entries the history has at least, as the lock counted it for the seat's worker
abbrev pub known_length : TurnSeat → ℕ
known_length seat = known_in (view_of seat.badge.views)

-- which lock the seat belongs to
abbrev pub lock_of_seat : TurnSeat → TableId
lock_of_seat seat = seat.badge.table_id

abbrev pub worker_of : TurnSeat → ℕ
worker_of seat = seat.worker

abbrev pub mark_of : TurnSeat → Mark
mark_of seat = mark seat.worker (seen_by seat) (known_length seat)
