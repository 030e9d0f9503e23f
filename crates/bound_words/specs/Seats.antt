-- What a seat is to its table.
use Rattle.std.specs.Prelude.{◌≡◌, ℕ, ◌∷◌, [], List, length, true}
use Rattle.atomic_table.specs.Seated.{TableId}
use Rattle.bound_words.specs.declared.seat.RelaxSeat.{RelaxSeat}
use Rattle.bound_words.specs.Rows.{Terms, IsRow, IsBetween}
use Rattle.bound_words.specs.Fitting.{IsFitting}

-- the number under which it passes gates
abbrev pub number_of : RelaxSeat → ℕ
number_of s = s.number

-- the furthest value of each word that the seat has seen
abbrev pub seen_by : RelaxSeat → List ℕ
seen_by s = s.seat.me.0.seen

-- the row that it loaded in its last sweep
abbrev pub loaded_by : RelaxSeat → List ℕ
loaded_by s = s.seat.me.0.loaded

abbrev pub places_of : RelaxSeat → List ℕ
places_of s = s.seat.me.0.places

-- its sweeps, with those of the seats joined into it
abbrev pub sweeps_of : RelaxSeat → ℕ
sweeps_of s = s.seat.me.0.sweeps

-- the raises that it has begun, with those of the seats joined into it
abbrev pub begun_by : RelaxSeat → ℕ
begun_by s = s.seat.me.0.begun

-- the count of done raises with which its last sweep began, and the count of begun raises with which it ended
abbrev pub done_at_start : RelaxSeat → ℕ
done_at_start s = s.seat.me.0.mark

abbrev pub begun_at_end : RelaxSeat → ℕ
begun_at_end s = s.seat.me.0.latest

-- one of its sweeps, or of a seat joined into it, answered `Quiet`
abbrev pub IsQuiet : RelaxSeat → Type 0
IsQuiet s = s.seat.me.0.quiet ≡ true

-- The seat is one of the table with this identity, for a system with these terms and this start row.
-- What it has seen lies between the start row and the least closed row.
pub record IsSeatAt (t : Terms) (start : List ℕ) (id : TableId) (s : RelaxSeat) : Type 0 where
  pub fitting : IsFitting t id s.seat
  pub room : length s.row.items ≡ t.words
  pub start_row : IsRow t start
  pub between : IsBetween t start (seen_by s)

-- as `new` gives the seat with this number
pub record IsNewSeat (t : Terms) (start : List ℕ) (id : TableId) (number : ℕ) (s : RelaxSeat) : Type 0 where
  pub seat_at : IsSeatAt t start id s
  pub numbered : number_of s ≡ number
  pub placed : places_of s ≡ number ∷ []
  pub sees_start : seen_by s ≡ start
  pub no_sweep : sweeps_of s ≡ 0

-- as `new` gives it, but for its number
pub record IsFreshAt (t : Terms) (start : List ℕ) (id : TableId) (s : RelaxSeat) : Type 0 where
  pub seat_at : IsSeatAt t start id s
  pub one_place : length (places_of s) ≡ 1
  pub sees_start : seen_by s ≡ start
  pub no_sweep : sweeps_of s ≡ 0
