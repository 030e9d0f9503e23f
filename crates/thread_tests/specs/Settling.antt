-- Seats that have swept.
use Rattle.std.specs.Prelude.{◌≡◌, ℕ, ◌≤◌, length}
use Rattle.bound_words.specs.declared.table.RelaxTable.{RelaxTable}
use Rattle.bound_words.specs.declared.seat.RelaxSeat.{RelaxSeat}
use Rattle.bound_words.specs.Rows.{Terms}
use Rattle.bound_words.specs.Seats.{places_of, sweeps_of}
use Rattle.bound_words.specs.Tables.{IsSeatOf}

module _ {S : Type 0} (terms : S → Terms) where
  -- a seat of the table that has one place, and made at most so many sweeps
  pub record HasSwept (table : RelaxTable S) (most : ℕ) (seat : RelaxSeat) : Type 0 where
    pub seat_of : IsSeatOf terms table seat
    pub one_place : length (places_of seat) ≡ 1
    pub few : sweeps_of seat ≤ most
