-- What a clause reads of a store of dead boxes, and of a seat.
use Rattle.std.specs.Prelude.{ℕ, ◌<◌, List, Option}
use Rattle.atomic_table.specs.Seated.{TableId}
use Rattle.atomic_table.specs.declared.shared.Seat.{Seat}
use Rattle.ground_task.specs.Tasks.{TaskValue}
use Rattle.box_model.specs.declared.state_box.StateBox.{StateBox}
use Rattle.box_words.specs.Words.{words_of}
use Rattle.word_rows.specs.declared.view.View.{View}
use Rattle.word_rows.specs.Views as views
use Rattle.word_rows.specs.Tables.{view_of, id_of, entries_of, IsFitting, IsIdle}
use Rattle.dead_rows.specs.declared.store.DeadRows.{DeadRows}
use Rattle.dead_rows.specs.declared.store.Placed.{Placed}
use Rattle.dead_rows.specs.declared.store.Placed.TheVariants.{At, Full}

-- the task whose dead boxes these are
abbrev pub task_of : DeadRows → TaskValue
task_of store = (entries_of store.rows).task.value

-- by which the seats know the store
abbrev pub store_id : DeadRows → TableId
store_id store = id_of store.rows

-- the seat is one of the store's
abbrev pub IsSeatOf : DeadRows → Seat (Unit {0}) View → Type 0
IsSeatOf store seat = IsIdle (id_of store.rows) seat

-- the numbers that the seat drew, with those of the seats joined into it
abbrev pub claims_of : Seat (Unit {0}) View → List ℕ
claims_of seat = (view_of seat).claims

-- the number that a publication drew
abbrev pub number_in : Placed → ℕ
number_in (At row) = row
number_in (Full number) = number

-- the seat knows that the row is ready and has the words of this box
abbrev pub KnowsBox : Seat (Unit {0}) View → ℕ → StateBox → Type 0
KnowsBox seat row b = views.Knows (view_of seat) row (words_of b)

-- how often the ready word of a row was loaded
abbrev pub loads_of : Seat (Unit {0}) View → ℕ → ℕ
loads_of seat row = views.loads_of (view_of seat) row

-- what the seat's own last load of it gave
abbrev pub last_of : Seat (Unit {0}) View → ℕ → Option ℕ
last_of seat row = views.last_of (view_of seat) row

-- the words of a row that the seat knows
abbrev pub row_words : Seat (Unit {0}) View → ℕ → List ℕ
row_words seat row = views.words_known (view_of seat) row

-- the seat fits the table and knows the row
pub record CanRead (id : TableId) (seat : Seat (Unit {0}) View) (row : ℕ) : Type 0 where
  pub fits : IsFitting id seat
  pub inside : row < 1024
  pub known : views.Knows (view_of seat) row (row_words seat row)
