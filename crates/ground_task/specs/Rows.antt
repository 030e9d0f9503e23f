-- A state as one row of words of 64 bits: its facts, packed, and then its numbers.
use Rattle.std.specs.Prelude.{ℕ, ℤ, ◌≡◌, ◌+◌, ◌*◌, ◌/◌, ◌%◌, ◌^◌, ◌<◌, ◌++◌, unsigned_abs, Bool, true, false, not, List, [], ◌∷◌, All, length, map, drop, nat_lt, slice_index_or}
use Rattle.std.proofs.Common.{ap}
use Rattle.std.specs.Bool.{IsTrue}
use Rattle.std.specs.Hash as fed
use Rattle.std.specs.Int.{cast_signed, cast_unsigned, div_ceil, w64, w128}
use Rattle.std.specs.List.{list_all, range_with_len}
use Rattle.num_ends.specs.Decimal.{InRange}
use Rattle.ground_task.specs.Orders.{is_same_state, same_state}
use Rattle.ground_task.specs.Packed.{packed, unpacked}
use Rattle.ground_task.specs.States.{StateValue}

-- the facts and numbers of a row, and whether each number takes two words
pub record RowValue : Type 0 where
  pub facts : List Bool
  pub values : List ℤ
  pub is_wide : Bool

-- ---- numbers

-- a number that one word has room for, from -(2^63 - 1) to 2^63 - 1
abbrev pub is_narrow : ℤ → Bool
is_narrow n = nat_lt (unsigned_abs n) (2 ^ 63)

-- the numbers of a state take two words each where one of them needs two
abbrev pub needs_two_words : List ℤ → Bool
needs_two_words ns = not (list_all is_narrow ns)

-- a number has room in the words that it takes
abbrev pub FitsWords : Bool → ℤ → Type 0
FitsWords false n = unsigned_abs n < 2 ^ 63
FitsWords true n = InRange n

-- the word of a number, and its two words, the high one first
abbrev pub narrow_word : ℤ → ℕ
narrow_word n = cast_unsigned w64 n

abbrev pub high_word : ℤ → ℕ
high_word n = cast_unsigned w128 n / 2 ^ 64

abbrev pub low_word : ℤ → ℕ
low_word n = cast_unsigned w128 n % 2 ^ 64

unfoldable pub wide_words : List ℤ → List ℕ
wide_words [] = []
wide_words (n ∷ ns) = high_word n ∷ low_word n ∷ wide_words ns

abbrev pub number_words : Bool → List ℤ → List ℕ
number_words false ns = map narrow_word ns
number_words true ns = wide_words ns

-- how many words so many numbers take
abbrev pub number_word_count : Bool → ℕ → ℕ
number_word_count false count = count
number_word_count true count = 2 * count

-- the number at a place of such words
abbrev pub number_in : Bool → List ℕ → ℕ → ℤ
number_in false words i = cast_signed w64 (slice_index_or words i 0)
number_in true words i = cast_signed w128 (slice_index_or words (2 * i) 0 * 2 ^ 64 + slice_index_or words (2 * i + 1) 0)

-- ---- rows

-- the words of a row
abbrev pub words_of_row : RowValue → List ℕ
words_of_row r = packed r.facts ++ number_words r.is_wide r.values

-- the words of a state
abbrev pub words_of_state : StateValue → List ℕ
words_of_state s = packed s.facts ++ number_words (needs_two_words s.values) s.values

unfoldable pub numbers_in : Bool → List ℕ → ℕ → List ℤ
numbers_in is_wide words count = map (number_in is_wide words) (range_with_len 0 count)

-- what so many facts and numbers in words are
abbrev pub row_in : List ℕ → ℕ → ℕ → Bool → RowValue
row_in words facts values is_wide =
    record {
      facts = unpacked words facts;
      values = numbers_in is_wide (drop (div_ceil facts 64) words) values;
      is_wide = is_wide;
    }

-- the words are those of what they are, and each number has room
pub record IsRow (words : List ℕ) (facts values : ℕ) (is_wide : Bool) : Type 0 where
  pub words_are : words ≡ words_of_row (row_in words facts values is_wide)
  pub each_fits : All (FitsWords is_wide) (row_in words facts values is_wide).values

-- the state of a row
abbrev pub state_of_row : RowValue → StateValue
state_of_row r = record { facts = r.facts; values = r.values }

-- the row has two words a number exactly where a number needs them
abbrev pub HasLeastWords : RowValue → Type 0
HasLeastWords r = r.is_wide ≡ needs_two_words r.values

-- equal states have one hash
pub same_state_words : (x y : StateValue) → IsTrue (is_same_state x y) → fed.slice fed.u64 (words_of_state x) ≡ fed.slice fed.u64 (words_of_state y)
same_state_words x y e = ap (λ (s : StateValue). fed.slice fed.u64 (words_of_state s)) (same_state x y e)

-- ---- rows beside each other

-- as many facts and numbers
pub record IsAlike (r s : RowValue) : Type 0 where
  pub facts : length r.facts ≡ length s.facts
  pub values : length r.values ≡ length s.values

-- and of two widths
pub record ArePair (r s : RowValue) : Type 0 where
  pub alike : IsAlike r s
  pub width : s.is_wide ≡ not r.is_wide

-- a row with as many facts and numbers as a state, of the width that the state doesn't need
pub record IsSpare (s : StateValue) (r : RowValue) : Type 0 where
  pub facts : length r.facts ≡ length s.facts
  pub values : length r.values ≡ length s.values
  pub width : r.is_wide ≡ not (needs_two_words s.values)
