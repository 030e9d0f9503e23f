-- A box as a list of words: one a fact, and then eight a fluent, four for each end.
use Rattle.std.specs.Prelude.{◌≡◌, ◌≢◌, ℕ, ◌+◌, ◌-◌, ◌*◌, ◌/◌, ◌%◌, ◌^◌, ◌≤◌, ◌==◌, ◌<◌, suc, List, [], ◌∷◌, ◌++◌, map, length, flat_map, ℤ, pos, negsuc, neg_ℤ, nat_lt, if◌then◌else◌, slice_index, ⊤, IsTrue}
use Rattle.std.specs.List.{range_with_len}
use Rattle.num_ends.specs.Decimal.{Decimal, IsDec}
use Rattle.num_ends.specs.Ends.{Interval, is_inhabited, whole_line}
use Rattle.num_ends.specs.declared.ends.End.{End}
use Rattle.num_ends.specs.declared.ends.End.TheVariants.{NegInf, Excl, Incl, PosInf}
use Rattle.box_model.specs.Boxes.{fluent_in}
use Rattle.box_model.specs.declared.state_box.May.{May}
use Rattle.box_model.specs.declared.state_box.May.TheVariants.{True, False, Any}
use Rattle.box_model.specs.declared.state_box.StateBox.{StateBox}

abbrev pub fact_word : May → ℕ
fact_word True = 0
fact_word False = 1
fact_word Any = 2

-- a number plus 2^127
abbrev pub shifted : ℤ → ℕ
shifted (pos m) = 2 ^ 127 + m
shifted (negsuc m) = 2 ^ 127 - suc m

-- the kind of an end, its places, and the upper and the lower 64 bits of its number plus 2^127
abbrev pub finite_words : ℕ → Decimal → List ℕ
finite_words kind d = kind ∷ d.p ∷ shifted d.n / 2 ^ 64 ∷ shifted d.n % 2 ^ 64 ∷ []

-- the kind is 0 for an infinite end, 1 for an open one and 2 for a closed one
abbrev pub end_words : End → List ℕ
end_words NegInf = 0 ∷ 0 ∷ 0 ∷ 0 ∷ []
end_words (Excl d) = finite_words 1 d
end_words (Incl d) = finite_words 2 d
end_words PosInf = 0 ∷ 0 ∷ 0 ∷ 0 ∷ []

abbrev pub interval_words : Interval → List ℕ
interval_words i = end_words i.0 ++ end_words i.1

abbrev pub words_of : StateBox → List ℕ
words_of b = map fact_word b.facts ++ flat_map interval_words b.fluents

-- the words of a box with so many facts and fluents
abbrev pub width_of : ℕ → ℕ → ℕ
width_of facts fluents = facts + 8 * fluents

-- Back: what words say

abbrev pub may_of : ℕ → May
may_of w = if w == 0 then True else (if w == 1 then False else Any)

abbrev pub number_of : ℕ → ℤ
number_of w = if nat_lt w (2 ^ 127) then neg_ℤ (pos (2 ^ 127 - w)) else pos (w - 2 ^ 127)

abbrev pub decimal_of : ℕ → ℕ → ℕ → Decimal
decimal_of places high low = record { n = number_of (high * 2 ^ 64 + low); p = places }

-- the finite end of this kind
abbrev pub finite_end : ℕ → Decimal → End
finite_end kind d = if kind == 1 then Excl d else Incl d

-- the end of a side whose infinite end is this
abbrev pub end_of : End → ℕ → ℕ → ℕ → ℕ → End
end_of infinite kind places high low = if kind == 0 then infinite else finite_end kind (decimal_of places high low)

abbrev pub fact_at : List ℕ → ℕ → May
fact_at words f = may_of (slice_index words f)

-- the end that stands from a place on
abbrev pub end_at : End → List ℕ → ℕ → End
end_at infinite words place = end_of infinite (slice_index words place) (slice_index words (place + 1)) (slice_index words (place + 2)) (slice_index words (place + 3))

-- the interval of a fluent, behind the words of so many facts
abbrev pub interval_at : ℕ → List ℕ → ℕ → Interval
interval_at facts words x = (end_at NegInf words (facts + 8 * x), end_at PosInf words (facts + 8 * x + 4))

-- the box that words say, of so many facts and fluents
abbrev pub box_of : ℕ → ℕ → List ℕ → StateBox
box_of facts fluents words = record {
  facts = map (fact_at words) (range_with_len 0 facts);
  fluents = map (interval_at facts words) (range_with_len 0 fluents);
}

-- a finite end is a decimal of the code
abbrev pub IsEndDec : End → Type 0
IsEndDec NegInf = ⊤
IsEndDec (Excl d) = IsDec d
IsEndDec (Incl d) = IsDec d
IsEndDec PosInf = ⊤

-- the four words from a place on say an infinite end, or one at a decimal of the code
abbrev pub IsEndWords : List ℕ → ℕ → Type 0
IsEndWords words place = slice_index words place ≢ 0 → IsDec (decimal_of (slice_index words (place + 1)) (slice_index words (place + 2)) (slice_index words (place + 3)))

-- the box can be one of the code: no part is empty, and each finite end is a decimal of the code
pub record IsWordable (b : StateBox) : Type 0 where
  pub inhabited : (x : ℕ) → x < length b.fluents → IsTrue (is_inhabited (fluent_in b x).0 (fluent_in b x).1)
  pub lower_dec : (x : ℕ) → x < length b.fluents → IsEndDec (fluent_in b x).0
  pub upper_dec : (x : ℕ) → x < length b.fluents → IsEndDec (fluent_in b x).1
