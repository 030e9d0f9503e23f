-- What a clause reads of a table of rows, and of a seat.
use Rattle.std.specs.Prelude.{◌≡◌, ℕ, ◌≤◌, [], None}
use Rattle.atomic_table.specs.Seated.{TableId}
use Rattle.atomic_table.specs.declared.shared.Seat.{Seat}
use Rattle.word_rows.specs.declared.view.View.{View}
use Rattle.word_rows.specs.Views.{fresh_view}
use Rattle.word_rows.specs.declared.rows.WordRows.{WordRows}

-- what the seat knows
abbrev pub view_of : Seat (Unit {0}) View → View
view_of seat = seat.me.0

-- the seat is one of the table with this identity
pub record IsFitting (id : TableId) (seat : Seat (Unit {0}) View) : Type 0 where
  pub table : seat.table_id ≡ id
  pub no_slot : seat.me.1 ≡ []
  pub some_seat : 1 ≤ seat.me.0.seats

-- it is one of the table, and writes no row
pub record IsIdle (id : TableId) (seat : Seat (Unit {0}) View) : Type 0 where
  pub fits : IsFitting id seat
  pub idle : seat.me.0.writing ≡ None

-- as `new` gives it: one seat, which has done nothing
pub record IsFresh (id : TableId) (seat : Seat (Unit {0}) View) : Type 0 where
  pub idle : IsIdle id seat
  pub me : seat.me ≡ (fresh_view 1, [])

module _ {E : Type 0} where
  -- by which the seats know the table
  abbrev pub id_of : WordRows E → TableId
  id_of rows = rows.table.shared.table_id

  -- what the words of its rows say
  abbrev pub entries_of : WordRows E → E
  entries_of rows = rows.table.shared.key.entries.value

  -- the number of words of a row
  abbrev pub width_of : WordRows E → ℕ
  width_of rows = rows.width

  -- the number of seats that it was made with
  abbrev pub seats_of : WordRows E → ℕ
  seats_of rows = rows.table.shared.key.seats
