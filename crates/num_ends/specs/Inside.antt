-- For contracts inside this crate alone: the parts of a numeral as they are read, and ends of exact decimals.
use Rattle.std.specs.Prelude.{ℕ, ◌≡◌, ◌++◌, List, [], ◌∷◌, Bool, false, cond, codes, length, neg_ℤ, pos, All, Result, MatchResult, if◌then◌else◌, int_lt}
use Rattle.std.specs.Char.{IsAsciiDigit}
use Rattle.std.specs.Str.Parse.{digits_value}
use Rattle.num_ends.specs.Decimal.{Decimal, InRange}
use Rattle.num_ends.specs.Texts.{IsNumeral}
use Rattle.num_ends.specs.declared.faults.Range.{Range}
use Rattle.num_ends.specs.declared.ends.End.{End}
use Rattle.num_ends.specs.declared.ends.End.TheVariants.{Excl, Incl}

-- ---- numerals

-- no digit comes first
abbrev pub NoDigitFirst : List ℕ → Type 0
NoDigitFirst [] = Unit {0}
NoDigitFirst (c ∷ cs) = IsAsciiDigit c → ⊥

-- no `-` comes first
abbrev pub NoMinusFirst : List ℕ → Type 0
NoMinusFirst [] = Unit {0}
NoMinusFirst (c ∷ cs) = c ≡ 45 → ⊥

-- how a text is cut: its sign, its whole digits, and what follows them
pub record IsCut (text : List ℕ) (negative : Bool) (whole rest : List ℕ) : Type 0 where
  pub spelled : text ≡ cond negative (codes "-") [] ++ (whole ++ rest)
  pub plain : negative ≡ false → NoMinusFirst (whole ++ rest)
  pub all_digits : All IsAsciiDigit whole
  pub stop : NoDigitFirst rest

-- what follows the whole digits: nothing, or a point and the fraction's digits
pub record IsTail (rest fraction : List ℕ) : Type 0 where
  pub pointed : Bool
  pub spelled : rest ≡ cond pointed (codes "." ++ fraction) []
  pub all_digits : All IsAsciiDigit fraction
  pub no_point : pointed ≡ false → fraction ≡ []

-- the decimal that digits before and behind the point stand for
abbrev pub decimal_of : Bool → List ℕ → List ℕ → Decimal
decimal_of negative whole fraction = record {
  n = cond negative (neg_ℤ (pos (digits_value 10 (whole ++ fraction)))) (pos (digits_value 10 (whole ++ fraction)));
  p = length fraction;
}

-- a numeral's sign, and its digits before and behind the point
pub record IsParts (text : List ℕ) (negative : Bool) (whole fraction : List ℕ) : Type 0 where
  pub numeral : IsNumeral text (decimal_of negative whole fraction)
  pub whole_digits : All IsAsciiDigit whole
  pub fraction_digits : All IsAsciiDigit fraction

-- ---- ends

-- the decimal itself where its number is in range, and else its sign
pub record IsKnown (exact : Decimal) (found : Result Decimal Range) (negative : Bool) : Type 0 where
  pub value : MatchResult found (λ d. (d ≡ exact) × InRange exact.n) (λ fault. InRange exact.n → ⊥)
  pub sign : (InRange exact.n → ⊥) → negative ≡ int_lt exact.n (pos 0)

abbrev pub end_of : Bool → Decimal → End
end_of closed d = if closed then Incl d else Excl d
