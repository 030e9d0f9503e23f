-- What a clause reads of a table.
use Rattle.std.specs.Prelude.{ℕ, List}
use Rattle.atomic_table.specs.Seated.{TableId}
use Rattle.bound_words.specs.declared.table.RelaxTable.{RelaxTable}
use Rattle.bound_words.specs.declared.seat.RelaxSeat.{RelaxSeat}
use Rattle.bound_words.specs.Rows.{Terms}
use Rattle.bound_words.specs.Seats.{IsSeatAt, IsFreshAt}

module _ {S : Type 0} where
  -- the row that it was made over
  abbrev pub start_of : RelaxTable S → List ℕ
  start_of table = table.table.shared.key.start.value

  -- the number of seats that it was made with
  abbrev pub seats_of : RelaxTable S → ℕ
  seats_of table = table.table.shared.key.seats

  -- by which its seats know it
  abbrev pub id_of : RelaxTable S → TableId
  id_of table = table.table.shared.table_id

module _ {S : Type 0} (terms : S → Terms) where
  -- the terms of its system
  abbrev pub terms_of : RelaxTable S → Terms
  terms_of table = terms table.table.shared.key.system.value

  -- the seat is one of the table
  abbrev pub IsSeatOf : RelaxTable S → RelaxSeat → Type 0
  IsSeatOf table seat = IsSeatAt (terms_of table) (start_of table) (id_of table) seat

  -- the seat is one of the table that has one place, has seen the start row alone, and made no sweep
  abbrev pub IsFresh : RelaxTable S → RelaxSeat → Type 0
  IsFresh table seat = IsFreshAt (terms_of table) (start_of table) (id_of table) seat
