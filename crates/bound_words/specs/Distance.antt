-- How far two rows are apart.
use Rattle.std.specs.Prelude.{ℕ, zero, suc, ◌+◌, ◌-◌, ◌<◌, ◌≤◌, List, slice_index}
use Rattle.std.specs.Int.{bit_at}
use Rattle.bound_words.specs.declared.system.Direction.{Direction}
use Rattle.bound_words.specs.declared.system.Direction.TheVariants.{Max, Min, Or}
use Rattle.bound_words.specs.Rows.{Terms, IsRow, IsRowPast}
use Rattle.bound_words.specs.Sweeps.{IsMoved}

-- the difference of two numbers
abbrev pub difference : ℕ → ℕ → ℕ
difference x y = (x - y) + (y - x)

-- the number of the bits below n in which x and y differ
abbrev pub bits_apart : ℕ → ℕ → ℕ → ℕ
bits_apart x y zero = 0
bits_apart x y (suc n) = bits_apart x y n + difference (bit_at x n) (bit_at y n)

-- how far two values of a word are apart: the number of differing bits for `Or`, and the difference otherwise
abbrev pub value_distance : Direction → ℕ → ℕ → ℕ
value_distance Max x y = difference x y
value_distance Min x y = difference x y
value_distance Or x y = bits_apart x y 64

-- the sum over the words below n
abbrev pub distance_to : Terms → List ℕ → List ℕ → ℕ → ℕ
distance_to t a b zero = 0
distance_to t a b (suc n) = distance_to t a b n + value_distance (t.direction n) (slice_index a n) (slice_index b n)

abbrev pub distance : Terms → List ℕ → List ℕ → ℕ
distance t a b = distance_to t a b t.words

-- a row further out is no nearer, and one with a word further out is more distant
abbrev pub FurtherIsMoreDistant : Type 0
FurtherIsMoreDistant = (t : Terms) (a b c : List ℕ) → IsRow t a → IsRow t b → IsRow t c → IsRowPast t a b → IsRowPast t b c → (distance t a b ≤ distance t a c) × (IsMoved t b c → distance t a b < distance t a c)
