-- Truth values packed into words of 64 bits, the first in the highest bit of the first word.
use Rattle.std.specs.Prelude.{ℕ, ◌≡◌, ◌+◌, ◌-◌, ◌*◌, ◌/◌, ◌%◌, ◌^◌, ◌==◌, zero, suc, Bool, true, false, List, [], ◌∷◌, length, map, drop, slice_index_or}
use Rattle.std.specs.Int.{bit_at, div_ceil}
use Rattle.std.specs.List.{range_with_len}

abbrev pub bit_number : Bool → ℕ
bit_number true = 1
bit_number false = 0

-- the number whose highest of so many bits are these, and whose further bits are 0
unfoldable pub leading_number : ℕ → List Bool → ℕ
leading_number zero bits = 0
leading_number (suc k) [] = 0
leading_number (suc k) (bit ∷ bits) = bit_number bit * 2 ^ k + leading_number k bits

-- so many words of these bits
unfoldable pub words_of : ℕ → List Bool → List ℕ
words_of zero bits = []
words_of (suc count) bits = leading_number 64 bits ∷ words_of count (drop 64 bits)

-- the fewest words that have room for these bits
unfoldable pub packed : List Bool → List ℕ
packed bits = words_of (div_ceil (length bits) 64) bits

-- the bit of this number, counted from the highest of the first word
abbrev pub bit_of : List ℕ → ℕ → Bool
bit_of words n = bit_at (slice_index_or words (n / 64) 0) (63 - n % 64) == 1

-- the first bits of words
unfoldable pub unpacked : List ℕ → ℕ → List Bool
unpacked words count = map (bit_of words) (range_with_len 0 count)

-- the words have room for so many bits and for no further word, and their further bits are 0
pub record IsPacked (words : List ℕ) (count : ℕ) : Type 0 where
  pub is_packed : words ≡ packed (unpacked words count)
