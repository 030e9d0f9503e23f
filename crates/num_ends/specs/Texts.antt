-- The texts of decimals and intervals, as lists of bytes.
use Rattle.std.specs.Prelude.{ℕ, ◌≡◌, ◌-◌, ◌/◌, ◌%◌, ◌^◌, ◌++◌, zero, suc, pos, Bool, false, cond, List, [], ℤ, length, replicate, codes, decimal, int_lt, unsigned_abs, All, neg_ℤ}
use Rattle.std.specs.Char.{IsAsciiDigit}
use Rattle.std.specs.Str.Parse.{digits_value}
use Rattle.num_ends.specs.Decimal.{Decimal, trimmed}
use Rattle.num_ends.specs.Ends.{Interval}
use Rattle.num_ends.specs.declared.ends.End.{End}
use Rattle.num_ends.specs.declared.ends.End.TheVariants.{NegInf, Excl, Incl, PosInf}

-- `-` before a negative number
abbrev pub sign_text : ℤ → List ℕ
sign_text n = cond (int_lt n (pos 0)) (codes "-") []

-- a number below 10^p with p digits
abbrev pub padded_digits : ℕ → ℕ → List ℕ
padded_digits p n = replicate (p - length (decimal n)) 48 ++ decimal n

-- the point and the digits behind it, where there are places
abbrev pub places_text : ℕ → ℕ → List ℕ
places_text zero m = []
places_text (suc p) m = codes "." ++ padded_digits (suc p) (m % 10 ^ suc p)

-- the text of a decimal that is trimmed
abbrev pub trimmed_text : Decimal → List ℕ
trimmed_text d =
    sign_text d.n ++ decimal (unsigned_abs d.n / 10 ^ d.p) ++ places_text d.p (unsigned_abs d.n)

unfoldable pub decimal_text : Decimal → List ℕ
decimal_text d = trimmed_text (trimmed d)

abbrev pub lower_text : End → List ℕ
lower_text NegInf = codes "(-inf"
lower_text (Excl d) = codes "(" ++ decimal_text d
lower_text (Incl d) = codes "[" ++ decimal_text d
lower_text PosInf = codes "(inf"

abbrev pub upper_text : End → List ℕ
upper_text NegInf = codes "-inf)"
upper_text (Excl d) = decimal_text d ++ codes ")"
upper_text (Incl d) = decimal_text d ++ codes "]"
upper_text PosInf = codes "inf)"

abbrev pub interval_text : Interval → List ℕ
interval_text i = lower_text i.0 ++ codes "," ++ upper_text i.1

-- a text that writes a number: perhaps `-`, digits, and perhaps `.` and digits, with at least one digit in all
pub record IsNumeral (text : List ℕ) (d : Decimal) : Type 0 where
  pub negative : Bool
  pub whole : List ℕ
  pub fraction : List ℕ
  pub pointed : Bool
  pub spelled : text ≡ cond negative (codes "-") [] ++ whole ++ cond pointed (codes "." ++ fraction) []
  pub all_digits : All IsAsciiDigit (whole ++ fraction)
  pub some_digit : length (whole ++ fraction) ≡ 0 → ⊥
  pub no_point : pointed ≡ false → fraction ≡ []
  pub number : d.n ≡ cond negative (neg_ℤ (pos (digits_value 10 (whole ++ fraction)))) (pos (digits_value 10 (whole ++ fraction)))
  pub places : d.p ≡ length fraction
