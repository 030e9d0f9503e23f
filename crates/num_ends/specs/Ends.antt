-- Ends and intervals, over decimals without bounds.
use Rattle.std.specs.Prelude.{Bool, true, false, cond, ◌&&◌}
use Rattle.num_ends.specs.Decimal.{Decimal, is_less, is_at_most}
use Rattle.num_ends.specs.declared.ends.End.{End}
use Rattle.num_ends.specs.declared.ends.End.TheVariants.{NegInf, Excl, Incl, PosInf}

-- a lower and an upper end
abbrev pub Interval : Type 0
Interval = End × End

-- the decimal lies on the inner side of a lower end
abbrev pub is_above : End → Decimal → Bool
is_above NegInf d = true
is_above (Excl e) d = is_less e d
is_above (Incl e) d = is_at_most e d
is_above PosInf d = false

-- the decimal lies on the inner side of an upper end
abbrev pub is_below : End → Decimal → Bool
is_below NegInf d = false
is_below (Excl e) d = is_less d e
is_below (Incl e) d = is_at_most d e
is_below PosInf d = true

-- the decimal is a member
abbrev pub has : Interval → Decimal → Bool
has i d = is_above i.0 d && is_below i.1 d

-- some decimal lies between a lower and an upper end
abbrev pub is_inhabited : End → End → Bool
is_inhabited PosInf u = false
is_inhabited NegInf NegInf = false
is_inhabited NegInf (Excl b) = true
is_inhabited NegInf (Incl b) = true
is_inhabited NegInf PosInf = true
is_inhabited (Excl a) NegInf = false
is_inhabited (Excl a) (Excl b) = is_less a b
is_inhabited (Excl a) (Incl b) = is_less a b
is_inhabited (Excl a) PosInf = true
is_inhabited (Incl a) NegInf = false
is_inhabited (Incl a) (Excl b) = is_less a b
is_inhabited (Incl a) (Incl b) = is_at_most a b
is_inhabited (Incl a) PosInf = true

-- the first lower end is as far out as the second: it is below it, or equal and not the open one of the two
abbrev pub lower_covers : End → End → Bool
lower_covers NegInf b = true
lower_covers (Excl a) NegInf = false
lower_covers (Excl a) (Excl b) = is_at_most a b
lower_covers (Excl a) (Incl b) = is_less a b
lower_covers (Excl a) PosInf = true
lower_covers (Incl a) NegInf = false
lower_covers (Incl a) (Excl b) = is_at_most a b
lower_covers (Incl a) (Incl b) = is_at_most a b
lower_covers (Incl a) PosInf = true
lower_covers PosInf NegInf = false
lower_covers PosInf (Excl b) = false
lower_covers PosInf (Incl b) = false
lower_covers PosInf PosInf = true

-- the same for upper ends
abbrev pub upper_covers : End → End → Bool
upper_covers PosInf b = true
upper_covers (Excl a) PosInf = false
upper_covers (Excl a) (Excl b) = is_at_most b a
upper_covers (Excl a) (Incl b) = is_less b a
upper_covers (Excl a) NegInf = true
upper_covers (Incl a) PosInf = false
upper_covers (Incl a) (Excl b) = is_at_most b a
upper_covers (Incl a) (Incl b) = is_at_most b a
upper_covers (Incl a) NegInf = true
upper_covers NegInf PosInf = false
upper_covers NegInf (Excl b) = false
upper_covers NegInf (Incl b) = false
upper_covers NegInf NegInf = true

-- each end of the second is as far out as that of the first
abbrev pub is_within : Interval → Interval → Bool
is_within i j = lower_covers j.0 i.0 && upper_covers j.1 i.1

abbrev pub point_of : Decimal → Interval
point_of d = (Incl d, Incl d)

abbrev pub whole_line : Interval
whole_line = (NegInf, PosInf)

-- the lower of two lower ends; at equal values a closed one
abbrev pub lower_hull : End → End → End
lower_hull a b = cond (lower_covers a b) a b

-- the higher of two upper ends, likewise
abbrev pub upper_hull : End → End → End
upper_hull a b = cond (upper_covers a b) a b

abbrev pub hull_of : Interval → Interval → Interval
hull_of i j = (lower_hull i.0 j.0, upper_hull i.1 j.1)

-- a lower end is below an upper one: then some value past the one is less than some value before the other
abbrev pub is_end_below : End → End → Bool
is_end_below PosInf u = false
is_end_below NegInf NegInf = false
is_end_below NegInf (Excl b) = true
is_end_below NegInf (Incl b) = true
is_end_below NegInf PosInf = true
is_end_below (Excl a) NegInf = false
is_end_below (Excl a) (Excl b) = is_less a b
is_end_below (Excl a) (Incl b) = is_less a b
is_end_below (Excl a) PosInf = true
is_end_below (Incl a) NegInf = false
is_end_below (Incl a) (Excl b) = is_less a b
is_end_below (Incl a) (Incl b) = is_less a b
is_end_below (Incl a) PosInf = true

-- some value of the first is less than some value of the second
abbrev pub may_less : Interval → Interval → Bool
may_less i j = is_end_below i.0 j.1

-- the same with equal values, where both ends are closed
abbrev pub may_less_equal : Interval → Interval → Bool
may_less_equal i j = is_inhabited i.0 j.1

-- some value is in both
abbrev pub may_equal : Interval → Interval → Bool
may_equal i j = may_less_equal i j && may_less_equal j i
