-- Decimals without bounds: a whole number over a power of ten.
use Rattle.std.specs.Prelude.{ℕ, ℤ, ◌≤◌, ◌<◌, ◌^◌, ◌-◌, ◌+◌, ◌*ℤ◌, ◌+ℤ◌, ◌-ℤ◌, zero, suc, pos, max, Bool, if◌then◌else◌, ◌==◌, int_lt, int_le, int_div, unsigned_abs, ◌%◌}
use Rattle.std.specs.declared.cmp.Ordering.{Ordering}
use Rattle.std.specs.Ordering.{int_cmp, int_eq}

-- n / 10^p
pub record Decimal : Type 0 where
  pub n : ℤ
  pub p : ℕ

-- the number of the equal decimal with q places, where q is at least the decimal's own count
abbrev pub number_at : ℕ → Decimal → ℤ
number_at q d = d.n *ℤ pos (10 ^ (q - d.p))

-- the equal decimal with q places, likewise
abbrev pub aligned : ℕ → Decimal → Decimal
aligned q d = record { n = number_at q d; p = q }

-- the larger of two counts of places
abbrev pub common_places : Decimal → Decimal → ℕ
common_places a b = max a.p b.p

-- two decimals are compared at the larger of their counts of places
abbrev pub is_less : Decimal → Decimal → Bool
is_less a b = int_lt (number_at (common_places a b) a) (number_at (common_places a b) b)

abbrev pub is_at_most : Decimal → Decimal → Bool
is_at_most a b = int_le (number_at (common_places a b) a) (number_at (common_places a b) b)

abbrev pub is_same_value : Decimal → Decimal → Bool
is_same_value a b = int_eq (number_at (common_places a b) a) (number_at (common_places a b) b)

abbrev pub order_of : Decimal → Decimal → Ordering
order_of a b = int_cmp (number_at (common_places a b) a) (number_at (common_places a b) b)

abbrev pub sum_of : Decimal → Decimal → Decimal
sum_of a b = record { n = number_at (common_places a b) a +ℤ number_at (common_places a b) b; p = common_places a b }

abbrev pub difference_of : Decimal → Decimal → Decimal
difference_of a b = record { n = number_at (common_places a b) a -ℤ number_at (common_places a b) b; p = common_places a b }

-- the numbers are multiplied and the places added
abbrev pub product_of : Decimal → Decimal → Decimal
product_of a b = record { n = a.n *ℤ b.n; p = a.p + b.p }

abbrev pub origin : Decimal
origin = record { n = pos 0; p = 0 }

-- the equal decimal with the fewest places: a last digit 0 behind the point is dropped
abbrev pub without_zeros : ℕ → ℤ → Decimal
without_zeros zero n = record { n = n; p = 0 }
without_zeros (suc p) n =
    if unsigned_abs n % 10 == 0 then without_zeros p (int_div n (pos 10)) else record { n = n; p = suc p }

unfoldable pub trimmed : Decimal → Decimal
trimmed d = without_zeros d.p d.n

-- what a number in the code may be: -2^127 is left out, so that each has its negative
abbrev pub InRange : ℤ → Type 0
InRange n = unsigned_abs n < 2 ^ 127

-- what a `Dec` in the code is
pub record IsDec (d : Decimal) : Type 0 where
  pub in_range : InRange d.n
  pub few_places : d.p ≤ 18
