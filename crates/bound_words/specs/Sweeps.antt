-- What a sweep does: it loads a row, and raises each word of which a rule asks for more than was loaded.
use Rattle.std.specs.Prelude.{◌≡◌, ◌≢◌, ℕ, zero, suc, ◌+◌, ◌<◌, ◌==◌, Bool, not, cond, nat_lt, List, slice_index, Option, Some, None, bit_or}
use Rattle.bound_words.specs.declared.system.Direction.{Direction}
use Rattle.bound_words.specs.declared.system.Direction.TheVariants.{Max, Min, Or}
use Rattle.bound_words.specs.declared.swept.Swept.{Swept}
use Rattle.bound_words.specs.declared.swept.Swept.TheVariants.{Quiet, Again}
use Rattle.bound_words.specs.Rows.{Terms, IsPast}

-- whether `asked` is more than a word has
abbrev pub is_more : Direction → ℕ → ℕ → Bool
is_more Max has asked = nat_lt has asked
is_more Min has asked = nat_lt asked has
is_more Or has asked = not (bit_or has asked == has)

-- 1 where a rule that asks for this asks for more than the row has, and 0 otherwise
abbrev pub asks_more : Terms → List ℕ → Option (ℕ × ℕ) → ℕ
asks_more t row (Some p) = cond (is_more (t.direction p.0) (slice_index row p.0) p.1) 1 0
asks_more t row None = 0

-- how many of the rules below n ask for more than the row has
abbrev pub asking : Terms → List ℕ → ℕ → ℕ
asking t row zero = 0
asking t row (suc n) = asking t row n + asks_more t row (t.asks n row)

-- what the rules below n ask for on the row is seen: `seen` has it, or is further out
abbrev pub AreSeen : Terms → List ℕ → List ℕ → ℕ → Type 0
AreSeen t row seen n = (rule w x : ℕ) → rule < n → t.asks rule row ≡ Some (w, x) → IsPast (t.direction w) x (slice_index seen w)

-- some word of b is further out than that of a
abbrev pub IsMoved : Terms → List ℕ → List ℕ → Type 0
IsMoved t a b = (w : ℕ) × (w < t.words) × IsPast (t.direction w) (slice_index a w) (slice_index b w) × (slice_index a w ≢ slice_index b w)

-- the answer of a sweep that found so many raises done at its start and so many begun at its end
abbrev pub swept_of : ℕ → ℕ → Swept
swept_of done begun = cond (begun == done) Quiet (Again done begun)
