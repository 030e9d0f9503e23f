-- Systems of words: rows, which of two rows is further out, what rules ask for, and the least row on which they ask for nothing more.
use Rattle.std.specs.Prelude.{◌≡◌, ℕ, ◌^◌, ◌<◌, ◌≤◌, List, length, slice_index, Option, Some, min, max, bit_or}
use Rattle.std.specs.Int.{bit_at}
use Rattle.bound_words.specs.declared.system.Direction.{Direction}
use Rattle.bound_words.specs.declared.system.Direction.TheVariants.{Max, Min, Or}

-- A system as plain data: the number of words and of rules, the way in which each word moves, and what a rule asks on a row
pub record Terms : Type 0 where
  pub words : ℕ
  pub direction : ℕ → Direction
  pub rules : ℕ
  pub asks : ℕ → List ℕ → Option (ℕ × ℕ)

-- y is past x: x itself or further out, which is at least x, at most x, or with all bits of x
abbrev pub IsPast : Direction → ℕ → ℕ → Type 0
IsPast Max x y = x ≤ y
IsPast Min x y = y ≤ x
IsPast Or x y = (i : ℕ) → bit_at x i ≤ bit_at y i

-- the nearest value that is past both
abbrev pub further : Direction → ℕ → ℕ → ℕ
further Max x y = max x y
further Min x y = min x y
further Or x y = bit_or x y

-- one entry a word, each of 64 bits
pub record IsRow (t : Terms) (row : List ℕ) : Type 0 where
  pub length_is : length row ≡ t.words
  pub fits : (w : ℕ) → w < t.words → slice_index row w < 2 ^ 64

-- row b is past row a: each word is
abbrev pub IsRowPast : Terms → List ℕ → List ℕ → Type 0
IsRowPast t a b = (w : ℕ) → w < t.words → IsPast (t.direction w) (slice_index a w) (slice_index b w)

-- The law. A rule asks only a word that there is, for a value of 64 bits; and on a row further out it asks the same word for that value or one further out
pub record IsMonotone (t : Terms) : Type 0 where
  pub asked_word : (rule : ℕ) (row : List ℕ) (w x : ℕ) → rule < t.rules → IsRow t row → t.asks rule row ≡ Some (w, x) → (w < t.words) × (x < 2 ^ 64)
  pub grows : (rule : ℕ) (a b : List ℕ) (w x : ℕ) → rule < t.rules → IsRow t a → IsRow t b → IsRowPast t a b → t.asks rule a ≡ Some (w, x)
      → (y : ℕ) × (t.asks rule b ≡ Some (w, y)) × IsPast (t.direction w) x y

-- the rules below n ask for no more than the row has
abbrev pub AreMet : Terms → List ℕ → ℕ → Type 0
AreMet t row n = (rule w x : ℕ) → rule < n → t.asks rule row ≡ Some (w, x) → IsPast (t.direction w) x (slice_index row w)

-- a row on which no rule asks for more than the row has
pub record IsClosed (t : Terms) (row : List ℕ) : Type 0 where
  pub is_row : IsRow t row
  pub met : AreMet t row t.rules

-- every closed row past the start row is past this row
abbrev pub IsWithinClosed : Terms → List ℕ → List ℕ → Type 0
IsWithinClosed t start row = (c : List ℕ) → IsClosed t c → IsRowPast t start c → IsRowPast t row c

-- the row lies between the start row and the least closed row: it is past the start, and every closed row past the start is past it
pub record IsBetween (t : Terms) (start row : List ℕ) : Type 0 where
  pub after_start : IsRowPast t start row
  pub before_closed : IsWithinClosed t start row

-- the least closed row past the start row
pub record IsLeastClosed (t : Terms) (start row : List ℕ) : Type 0 where
  pub closed : IsClosed t row
  pub between : IsBetween t start row

-- a value of the word w that lies between the start row and the least closed row
pub record IsBetweenAt (t : Terms) (start : List ℕ) (w x : ℕ) : Type 0 where
  pub after_start : IsPast (t.direction w) (slice_index start w) x
  pub before_closed : (c : List ℕ) → IsClosed t c → IsRowPast t start c → IsPast (t.direction w) x (slice_index c w)

-- x is the value that the word w has in the least closed row
abbrev pub IsSettledAt : Terms → List ℕ → ℕ → ℕ → Type 0
IsSettledAt t start w x = (c : List ℕ) → IsLeastClosed t start c → x ≡ slice_index c w
