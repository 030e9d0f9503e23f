-- The rule that a table of rows keeps at each moment, whichever seats step in which order.
-- Word 0 is the number of claims. Word r + 1 is 1 where the row r is ready, and otherwise 0. The 1,024 rows follow, each of so many words as the table is wide.
use Rattle.std.specs.Prelude.{◌≡◌, ◌⊎◌, ⊤, ℕ, ◌+◌, ◌*◌, ◌^◌, ◌<◌, ◌≤◌, List, [], ◌∷◌, length, slice_index, All, Option, Some, None}
use mathlib.Core.Option.{some}
use lib.ListN.{get_elem?}
use Rattle.atomic_table.specs.Table.{State}
use Rattle.word_rows.specs.declared.view.Line.{Line}
use Rattle.word_rows.specs.declared.view.View.{View}

-- the place of the first word of a row
abbrev pub row_start : ℕ → ℕ → ℕ
row_start width row = 1025 + row * width

-- the words from a place on begin with these
abbrev pub StandsAt : List ℕ → ℕ → List ℕ → Type 0
StandsAt table start words = (j : ℕ) → j < length words → slice_index table (start + j) ≡ slice_index words j

-- the row is ready, and these are its words
pub record IsReadyRow (width : ℕ) (table : List ℕ) (row : ℕ) (words : List ℕ) : Type 0 where
  pub inside : row < 1024
  pub ready : slice_index table (row + 1) ≡ 1
  pub whole : length words ≡ width
  pub stands : StandsAt table (row_start width row) words

-- the row isn't ready, and the seat alone writes it and has stored these words
pub record IsUnderWay (width : ℕ) (table : List ℕ) (owner : ℕ → ℕ) (seat : ℕ) (l : Line) : Type 0 where
  pub inside : l.row < 1024
  pub claimed : l.row < slice_index table 0
  pub own : owner l.row ≡ seat
  pub shut : slice_index table (l.row + 1) ≡ 0
  pub part : length l.words ≤ width
  pub stands : StandsAt table (row_start width l.row) l.words

abbrev pub IsWriting : ℕ → List ℕ → (ℕ → ℕ) → ℕ → Option Line → Type 0
IsWriting width table owner seat None = ⊤
IsWriting width table owner seat (Some l) = IsUnderWay width table owner seat l

-- the rows that the seat knows are ready with these words, the row that it writes is its own, and it has claimed at most 2^32 times a seat
pub record IsViewOf (width : ℕ) (table : List ℕ) (owner : ℕ → ℕ) (seat : ℕ) (v : View) : Type 0 where
  pub few_claims : length v.claims ≤ 2 ^ 32 * v.seats
  pub knows : All (λ l. IsReadyRow width table l.row l.words) v.known
  pub writes : IsWriting width table owner seat v.writing

-- the row isn't ready, or it was claimed and has the words of an entry
abbrev pub IsRowAt : ℕ → (List ℕ → Type 0) → List ℕ → ℕ → Type 0
IsRowAt width IsEntry table row = (slice_index table (row + 1) ≡ 0) ⊎ ((row < slice_index table 0) × (words : List ℕ) × IsReadyRow width table row words × IsEntry words)

abbrev pub total : (View → ℕ) → List View → ℕ
total f [] = 0
total f (v ∷ vs) = f v + total f vs

abbrev pub claim_count : View → ℕ
claim_count v = length v.claims

abbrev pub seat_count : View → ℕ
seat_count v = v.seats

-- `owner` gives the seat that drew a number
pub record Kept (width : ℕ) (IsEntry : List ℕ → Type 0) (seats : ℕ) (s : State (Unit {0}) View) : Type 0 where
  pub owner : ℕ → ℕ
  pub sized : length s.words ≡ 1025 + 1024 * width
  pub counted : slice_index s.words 0 ≡ total claim_count s.views
  pub shared_out : total seat_count s.views ≡ seats
  pub few_seats : seats ≤ 16
  pub each_row : (row : ℕ) → row < 1024 → IsRowAt width IsEntry s.words row
  pub each_view : (seat : ℕ) (v : View) → get_elem? s.views seat ≡ some v → IsViewOf width s.words owner seat v
