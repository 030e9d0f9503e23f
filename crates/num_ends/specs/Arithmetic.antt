-- Arithmetic on decimals, exact or refused, and on intervals, whose ends move outward into the range.
use Rattle.std.specs.Prelude.{◌≡◌, ◌≤◌, ◌+◌, ◌-◌, ◌*ℤ◌, ◌^◌, ℕ, ℤ, pos, neg_ℤ, max, Bool, true, false, if◌then◌else◌, ◌||◌, int_lt, int_le}
use Rattle.std.specs.Ordering.{int_eq}
use Rattle.num_ends.specs.Decimal.{Decimal, InRange, number_at, aligned, common_places, origin, sum_of, difference_of, product_of}
use Rattle.num_ends.specs.Ends.{Interval, lower_hull, upper_hull}
use Rattle.num_ends.specs.declared.ends.End.{End}
use Rattle.num_ends.specs.declared.ends.End.TheVariants.{NegInf, Excl, Incl, PosInf}

-- ---- decimals

-- both operands are in range at the larger of their counts of places
pub record OperandsFit (a b : Decimal) : Type 0 where
  pub first : InRange (number_at (common_places a b) a)
  pub second : InRange (number_at (common_places a b) b)

-- so are they and their sum
pub record SumFits (a b : Decimal) : Type 0 where
  pub operands : OperandsFit a b
  pub result : InRange (sum_of a b).n

-- so are they and their difference
pub record DifferenceFits (a b : Decimal) : Type 0 where
  pub operands : OperandsFit a b
  pub result : InRange (difference_of a b).n

-- the product of the two is 1
abbrev pub IsInverse : Decimal → Decimal → Type 0
IsInverse d e = d.n *ℤ e.n ≡ pos (10 ^ (d.p + e.p))

abbrev pub negative_of : Decimal → Decimal
negative_of d = record { n = neg_ℤ d.n; p = d.p }

-- ---- ends move outward into the range

abbrev pub top_number : ℤ
top_number = pos (2 ^ 127 - 1)

abbrev pub bottom_number : ℤ
bottom_number = neg_ℤ top_number

-- the greatest decimal in range with p places
abbrev pub top : ℕ → Decimal
top p = record { n = top_number; p = p }

-- and the least
abbrev pub bottom : ℕ → Decimal
bottom p = record { n = bottom_number; p = p }

-- a lower end past the bottom of the range is infinite; one past the top, or open at it, is the closed top
abbrev pub outward_lower : End → End
outward_lower NegInf = NegInf
outward_lower (Excl d) = if int_lt d.n bottom_number then NegInf else (if int_le top_number d.n then Incl (top d.p) else Excl d)
outward_lower (Incl d) = if int_lt d.n bottom_number then NegInf else (if int_lt top_number d.n then Incl (top d.p) else Incl d)
outward_lower PosInf = PosInf

-- an upper end past the top is infinite; one past the bottom, or open at it, is the closed bottom
abbrev pub outward_upper : End → End
outward_upper NegInf = NegInf
outward_upper (Excl d) = if int_lt top_number d.n then PosInf else (if int_le d.n bottom_number then Incl (bottom d.p) else Excl d)
outward_upper (Incl d) = if int_lt top_number d.n then PosInf else (if int_lt d.n bottom_number then Incl (bottom d.p) else Incl d)
outward_upper PosInf = PosInf

-- an end of the same value with q places
abbrev pub end_at : ℕ → End → End
end_at q NegInf = NegInf
end_at q (Excl d) = Excl (aligned q d)
end_at q (Incl d) = Incl (aligned q d)
end_at q PosInf = PosInf

abbrev pub lower_at : ℕ → End → End
lower_at q l = outward_lower (end_at q l)

abbrev pub upper_at : ℕ → End → End
upper_at q u = outward_upper (end_at q u)

-- each finite end with q places, moved outward
abbrev pub outward_of : ℕ → Interval → Interval
outward_of q i = (lower_at q i.0, upper_at q i.1)

-- ---- sums and differences

-- a finite end has p places
abbrev pub HasPlaces : ℕ → End → Type 0
HasPlaces p NegInf = Unit {0}
HasPlaces p (Excl d) = d.p ≡ p
HasPlaces p (Incl d) = d.p ≡ p
HasPlaces p PosInf = Unit {0}

-- a finite end's count of places
abbrev pub end_places : End → ℕ
end_places NegInf = 0
end_places (Excl d) = d.p
end_places (Incl d) = d.p
end_places PosInf = 0

abbrev pub larger_places : End → End → ℕ
larger_places a b = max (end_places a) (end_places b)

-- closed where both are closed, infinite where one is infinite
abbrev pub lower_sum : End → End → End
lower_sum (Incl a) (Incl b) = Incl (sum_of a b)
lower_sum (Incl a) (Excl b) = Excl (sum_of a b)
lower_sum (Excl a) (Incl b) = Excl (sum_of a b)
lower_sum (Excl a) (Excl b) = Excl (sum_of a b)
lower_sum a b = NegInf

abbrev pub upper_sum : End → End → End
upper_sum (Incl a) (Incl b) = Incl (sum_of a b)
upper_sum (Incl a) (Excl b) = Excl (sum_of a b)
upper_sum (Excl a) (Incl b) = Excl (sum_of a b)
upper_sum (Excl a) (Excl b) = Excl (sum_of a b)
upper_sum a b = PosInf

-- ends are brought to the larger places, outward, and added
abbrev pub outward_lower_sum : End → End → End
outward_lower_sum a b = outward_lower (lower_sum (lower_at (larger_places a b) a) (lower_at (larger_places a b) b))

abbrev pub outward_upper_sum : End → End → End
outward_upper_sum a b = outward_upper (upper_sum (upper_at (larger_places a b) a) (upper_at (larger_places a b) b))

abbrev pub interval_sum : Interval → Interval → Interval
interval_sum i j = (outward_lower_sum i.0 j.0, outward_upper_sum i.1 j.1)

abbrev pub mirrored_end : End → End
mirrored_end NegInf = PosInf
mirrored_end (Excl d) = Excl (negative_of d)
mirrored_end (Incl d) = Incl (negative_of d)
mirrored_end PosInf = NegInf

-- the interval of the negatives
abbrev pub mirrored : Interval → Interval
mirrored i = (mirrored_end i.1, mirrored_end i.0)

abbrev pub interval_difference : Interval → Interval → Interval
interval_difference i j = interval_sum i (mirrored j)

-- ---- products

abbrev pub is_closed_zero : End → Bool
is_closed_zero NegInf = false
is_closed_zero (Excl d) = false
is_closed_zero (Incl d) = int_eq d.n (pos 0)
is_closed_zero PosInf = false

abbrev pub is_open_zero : End → Bool
is_open_zero NegInf = false
is_open_zero (Excl d) = int_eq d.n (pos 0)
is_open_zero (Incl d) = false
is_open_zero PosInf = false

abbrev pub is_negative_end : End → Bool
is_negative_end NegInf = true
is_negative_end (Excl d) = int_lt d.n (pos 0)
is_negative_end (Incl d) = int_lt d.n (pos 0)
is_negative_end PosInf = false

-- infinite with the sign of the product
abbrev pub infinite_product : Bool → Bool → End
infinite_product true true = PosInf
infinite_product true false = NegInf
infinite_product false true = NegInf
infinite_product false false = PosInf

-- of two ends that are not 0: closed where both are closed, infinite where one is infinite
abbrev pub exact_product : End → End → End
exact_product (Incl a) (Incl b) = Incl (product_of a b)
exact_product (Incl a) (Excl b) = Excl (product_of a b)
exact_product (Excl a) (Incl b) = Excl (product_of a b)
exact_product (Excl a) (Excl b) = Excl (product_of a b)
exact_product a b = infinite_product (is_negative_end a) (is_negative_end b)

-- a closed 0 where one is a closed 0, else an open 0 where one is an open 0
abbrev pub end_product : End → End → End
end_product a b =
    if is_closed_zero a || is_closed_zero b then Incl origin
    else (if is_open_zero a || is_open_zero b then Excl origin else exact_product a b)

-- the finite ends of each interval have one count of places, and the two counts sum to at most 18
pub record ProductPlaces (i j : Interval) : Type 0 where
  pub first : ℕ
  pub second : ℕ
  pub first_lower : HasPlaces first i.0
  pub first_upper : HasPlaces first i.1
  pub second_lower : HasPlaces second j.0
  pub second_upper : HasPlaces second j.1
  pub few : first + second ≤ 18

-- the least of the four products of ends, as a lower end
abbrev pub least_product : Interval → Interval → End
least_product i j =
    lower_hull (lower_hull (end_product i.0 j.0) (end_product i.0 j.1)) (lower_hull (end_product i.1 j.0) (end_product i.1 j.1))

-- and the greatest, as an upper end
abbrev pub greatest_product : Interval → Interval → End
greatest_product i j =
    upper_hull (upper_hull (end_product i.0 j.0) (end_product i.0 j.1)) (upper_hull (end_product i.1 j.0) (end_product i.1 j.1))

abbrev pub interval_product : Interval → Interval → Interval
interval_product i j = (outward_lower (least_product i j), outward_upper (greatest_product i j))
