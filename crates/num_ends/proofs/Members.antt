-- Members of intervals, and how far out their ends are.
use Rattle.std.proofs.Common.{◌≡◌, true, false, cond, refl, inl, inr}
use Rattle.std.proofs.lemmas.Bool.{and_from, and_parts, cases_Bool}
use Rattle.num_ends.specs.Decimal.{Decimal, origin, is_at_most}
use Rattle.num_ends.specs.declared.ends.End.{End}
use Rattle.num_ends.specs.declared.ends.End.TheVariants.{NegInf, Excl, Incl, PosInf}
use Rattle.num_ends.specs.Ends.{Interval, is_above, is_below, has, is_inhabited, lower_covers, upper_covers, is_within, hull_of}
use Rattle.num_ends.proofs.DecimalOrder.{less_trans, less_most_trans, most_less_trans, most_trans, less_is_most, most_refl, not_less_is_most, not_most_is_less, one_less, one_more, between, one_less_below, one_more_above, between_above, between_below}

-- ---- one side of an interval

-- what is further in stays on the inner side
pub above_rises : (l : End) (d e : Decimal) → is_at_most d e ≡ true → is_above l d ≡ true → is_above l e ≡ true
above_rises NegInf d e h m = refl
above_rises (Excl a) d e h m = less_most_trans a d e m h
above_rises (Incl a) d e h m = most_trans a d e m h
above_rises PosInf d e h m = m

pub below_falls : (u : End) (d e : Decimal) → is_at_most d e ≡ true → is_below u e ≡ true → is_below u d ≡ true
below_falls NegInf d e h m = m
below_falls (Excl a) d e h m = most_less_trans d e a h m
below_falls (Incl a) d e h m = most_trans d e a h m
below_falls PosInf d e h m = refl

-- and the inner side of an end is on that of each end further out
pub above_covered : (l k : End) (d : Decimal) → lower_covers l k ≡ true → is_above k d ≡ true → is_above l d ≡ true
above_covered NegInf k d h m = refl
above_covered (Excl a) NegInf d h m = cc
above_covered (Excl a) (Excl b) d h m = most_less_trans a b d h m
above_covered (Excl a) (Incl b) d h m = less_most_trans a b d h m
above_covered (Excl a) PosInf d h m = cc
above_covered (Incl a) NegInf d h m = cc
above_covered (Incl a) (Excl b) d h m = less_is_most a d (most_less_trans a b d h m)
above_covered (Incl a) (Incl b) d h m = most_trans a b d h m
above_covered (Incl a) PosInf d h m = cc
above_covered PosInf NegInf d h m = cc
above_covered PosInf (Excl b) d h m = cc
above_covered PosInf (Incl b) d h m = cc
above_covered PosInf PosInf d h m = cc

pub below_covered : (u v : End) (d : Decimal) → upper_covers u v ≡ true → is_below v d ≡ true → is_below u d ≡ true
below_covered PosInf v d h m = refl
below_covered (Excl a) PosInf d h m = cc
below_covered (Excl a) (Excl b) d h m = less_most_trans d b a m h
below_covered (Excl a) (Incl b) d h m = most_less_trans d b a m h
below_covered (Excl a) NegInf d h m = cc
below_covered (Incl a) PosInf d h m = cc
below_covered (Incl a) (Excl b) d h m = less_is_most d a (less_most_trans d b a m h)
below_covered (Incl a) (Incl b) d h m = most_trans d b a m h
below_covered (Incl a) NegInf d h m = cc
below_covered NegInf PosInf d h m = cc
below_covered NegInf (Excl b) d h m = cc
below_covered NegInf (Incl b) d h m = cc
below_covered NegInf NegInf d h m = cc

-- ---- how far out ends are

pub lower_covers_refl : (l : End) → lower_covers l l ≡ true
lower_covers_refl NegInf = refl
lower_covers_refl (Excl a) = most_refl a
lower_covers_refl (Incl a) = most_refl a
lower_covers_refl PosInf = refl

pub upper_covers_refl : (u : End) → upper_covers u u ≡ true
upper_covers_refl NegInf = refl
upper_covers_refl (Excl a) = most_refl a
upper_covers_refl (Incl a) = most_refl a
upper_covers_refl PosInf = refl

pub lower_covers_trans : (l k m : End) → lower_covers l k ≡ true → lower_covers k m ≡ true → lower_covers l m ≡ true
lower_covers_trans NegInf k m h i = refl
lower_covers_trans (Excl a) NegInf m h i = cc
lower_covers_trans (Excl a) (Excl b) NegInf h i = cc
lower_covers_trans (Excl a) (Excl b) (Excl c) h i = most_trans a b c h i
lower_covers_trans (Excl a) (Excl b) (Incl c) h i = most_less_trans a b c h i
lower_covers_trans (Excl a) (Excl b) PosInf h i = refl
lower_covers_trans (Excl a) (Incl b) NegInf h i = cc
lower_covers_trans (Excl a) (Incl b) (Excl c) h i = less_is_most a c (less_most_trans a b c h i)
lower_covers_trans (Excl a) (Incl b) (Incl c) h i = less_most_trans a b c h i
lower_covers_trans (Excl a) (Incl b) PosInf h i = refl
lower_covers_trans (Excl a) PosInf NegInf h i = cc
lower_covers_trans (Excl a) PosInf (Excl c) h i = cc
lower_covers_trans (Excl a) PosInf (Incl c) h i = cc
lower_covers_trans (Excl a) PosInf PosInf h i = refl
lower_covers_trans (Incl a) NegInf m h i = cc
lower_covers_trans (Incl a) (Excl b) NegInf h i = cc
lower_covers_trans (Incl a) (Excl b) (Excl c) h i = most_trans a b c h i
lower_covers_trans (Incl a) (Excl b) (Incl c) h i = less_is_most a c (most_less_trans a b c h i)
lower_covers_trans (Incl a) (Excl b) PosInf h i = refl
lower_covers_trans (Incl a) (Incl b) NegInf h i = cc
lower_covers_trans (Incl a) (Incl b) (Excl c) h i = most_trans a b c h i
lower_covers_trans (Incl a) (Incl b) (Incl c) h i = most_trans a b c h i
lower_covers_trans (Incl a) (Incl b) PosInf h i = refl
lower_covers_trans (Incl a) PosInf NegInf h i = cc
lower_covers_trans (Incl a) PosInf (Excl c) h i = cc
lower_covers_trans (Incl a) PosInf (Incl c) h i = cc
lower_covers_trans (Incl a) PosInf PosInf h i = refl
lower_covers_trans PosInf NegInf m h i = cc
lower_covers_trans PosInf (Excl b) m h i = cc
lower_covers_trans PosInf (Incl b) m h i = cc
lower_covers_trans PosInf PosInf m h i = i

pub upper_covers_trans : (u v w : End) → upper_covers u v ≡ true → upper_covers v w ≡ true → upper_covers u w ≡ true
upper_covers_trans PosInf v w h i = refl
upper_covers_trans (Excl a) PosInf w h i = cc
upper_covers_trans (Excl a) (Excl b) PosInf h i = cc
upper_covers_trans (Excl a) (Excl b) (Excl c) h i = most_trans c b a i h
upper_covers_trans (Excl a) (Excl b) (Incl c) h i = less_most_trans c b a i h
upper_covers_trans (Excl a) (Excl b) NegInf h i = refl
upper_covers_trans (Excl a) (Incl b) PosInf h i = cc
upper_covers_trans (Excl a) (Incl b) (Excl c) h i = less_is_most c a (most_less_trans c b a i h)
upper_covers_trans (Excl a) (Incl b) (Incl c) h i = most_less_trans c b a i h
upper_covers_trans (Excl a) (Incl b) NegInf h i = refl
upper_covers_trans (Excl a) NegInf PosInf h i = cc
upper_covers_trans (Excl a) NegInf (Excl c) h i = cc
upper_covers_trans (Excl a) NegInf (Incl c) h i = cc
upper_covers_trans (Excl a) NegInf NegInf h i = refl
upper_covers_trans (Incl a) PosInf w h i = cc
upper_covers_trans (Incl a) (Excl b) PosInf h i = cc
upper_covers_trans (Incl a) (Excl b) (Excl c) h i = most_trans c b a i h
upper_covers_trans (Incl a) (Excl b) (Incl c) h i = less_is_most c a (less_most_trans c b a i h)
upper_covers_trans (Incl a) (Excl b) NegInf h i = refl
upper_covers_trans (Incl a) (Incl b) PosInf h i = cc
upper_covers_trans (Incl a) (Incl b) (Excl c) h i = most_trans c b a i h
upper_covers_trans (Incl a) (Incl b) (Incl c) h i = most_trans c b a i h
upper_covers_trans (Incl a) (Incl b) NegInf h i = refl
upper_covers_trans (Incl a) NegInf PosInf h i = cc
upper_covers_trans (Incl a) NegInf (Excl c) h i = cc
upper_covers_trans (Incl a) NegInf (Incl c) h i = cc
upper_covers_trans (Incl a) NegInf NegInf h i = refl
upper_covers_trans NegInf PosInf w h i = cc
upper_covers_trans NegInf (Excl b) w h i = cc
upper_covers_trans NegInf (Incl b) w h i = cc
upper_covers_trans NegInf NegInf w h i = i

-- of two ends one is as far out as the other
pub lower_covers_total : (l k : End) → lower_covers l k ≡ false → lower_covers k l ≡ true
lower_covers_total NegInf k h = cc
lower_covers_total (Excl a) NegInf h = refl
lower_covers_total (Excl a) (Excl b) h = less_is_most b a (not_most_is_less a b h)
lower_covers_total (Excl a) (Incl b) h = not_less_is_most a b h
lower_covers_total (Excl a) PosInf h = cc
lower_covers_total (Incl a) NegInf h = refl
lower_covers_total (Incl a) (Excl b) h = not_most_is_less a b h
lower_covers_total (Incl a) (Incl b) h = less_is_most b a (not_most_is_less a b h)
lower_covers_total (Incl a) PosInf h = cc
lower_covers_total PosInf NegInf h = refl
lower_covers_total PosInf (Excl b) h = refl
lower_covers_total PosInf (Incl b) h = refl
lower_covers_total PosInf PosInf h = cc

pub upper_covers_total : (u v : End) → upper_covers u v ≡ false → upper_covers v u ≡ true
upper_covers_total PosInf v h = cc
upper_covers_total (Excl a) PosInf h = refl
upper_covers_total (Excl a) (Excl b) h = less_is_most a b (not_most_is_less b a h)
upper_covers_total (Excl a) (Incl b) h = not_less_is_most b a h
upper_covers_total (Excl a) NegInf h = cc
upper_covers_total (Incl a) PosInf h = refl
upper_covers_total (Incl a) (Excl b) h = not_most_is_less b a h
upper_covers_total (Incl a) (Incl b) h = less_is_most a b (not_most_is_less b a h)
upper_covers_total (Incl a) NegInf h = cc
upper_covers_total NegInf PosInf h = refl
upper_covers_total NegInf (Excl b) h = refl
upper_covers_total NegInf (Incl b) h = refl
upper_covers_total NegInf NegInf h = cc

-- ---- some member

pub has_parts : (i : Interval) (d : Decimal) → has i d ≡ true → (is_above i.0 d ≡ true) × (is_below i.1 d ≡ true)
has_parts i d m = and_parts (is_above i.0 d) (is_below i.1 d) m

pub has_from : (i : Interval) (d : Decimal) → is_above i.0 d ≡ true → is_below i.1 d ≡ true → has i d ≡ true
has_from i d h k = and_from (is_above i.0 d) (is_below i.1 d) h k

-- a decimal between two ends
pub record Between (l u : End) : Type 0 where
  pub low : Decimal
  pub above : is_above l low ≡ true
  pub below : is_below u low ≡ true

pub member_of : (l u : End) → is_inhabited l u ≡ true → Between l u
member_of PosInf u h = cc
member_of NegInf NegInf h = cc
member_of NegInf (Excl b) h = record { low = one_less b; above = refl; below = one_less_below b }
member_of NegInf (Incl b) h = record { low = b; above = refl; below = most_refl b }
member_of NegInf PosInf h = record { low = origin; above = refl; below = refl }
member_of (Excl a) NegInf h = cc
member_of (Excl a) (Excl b) h = record { low = between a b; above = between_above a b h; below = between_below a b h }
member_of (Excl a) (Incl b) h = record { low = b; above = h; below = most_refl b }
member_of (Excl a) PosInf h = record { low = one_more a; above = one_more_above a; below = refl }
member_of (Incl a) NegInf h = cc
member_of (Incl a) (Excl b) h = record { low = a; above = most_refl a; below = h }
member_of (Incl a) (Incl b) h = record { low = a; above = most_refl a; below = h }
member_of (Incl a) PosInf h = record { low = a; above = most_refl a; below = refl }

pub inhabited_has : (i : Interval) → is_inhabited i.0 i.1 ≡ true → (d : Decimal) × (has i d ≡ true)
inhabited_has i h =
    let m = member_of i.0 i.1 h in
    (m.low, has_from i m.low m.above m.below)

-- what lies between two ends, or on both sides of an order, tells that they are not past each other
pub between_inhabits : (l u : End) (d e : Decimal) → is_at_most d e ≡ true → is_above l d ≡ true → is_below u e ≡ true → is_inhabited l u ≡ true
between_inhabits PosInf u d e o h k = h
between_inhabits NegInf NegInf d e o h k = k
between_inhabits NegInf (Excl b) d e o h k = refl
between_inhabits NegInf (Incl b) d e o h k = refl
between_inhabits NegInf PosInf d e o h k = refl
between_inhabits (Excl a) NegInf d e o h k = k
between_inhabits (Excl a) (Excl b) d e o h k = less_trans a e b (less_most_trans a d e h o) k
between_inhabits (Excl a) (Incl b) d e o h k = less_most_trans a e b (less_most_trans a d e h o) k
between_inhabits (Excl a) PosInf d e o h k = refl
between_inhabits (Incl a) NegInf d e o h k = k
between_inhabits (Incl a) (Excl b) d e o h k = most_less_trans a e b (most_trans a d e h o) k
between_inhabits (Incl a) (Incl b) d e o h k = most_trans a e b (most_trans a d e h o) k
between_inhabits (Incl a) PosInf d e o h k = refl

pub has_inhabited : (i : Interval) (d : Decimal) → has i d ≡ true → is_inhabited i.0 i.1 ≡ true
has_inhabited i d m =
    let h = has_parts i d m in
    between_inhabits i.0 i.1 d d (most_refl d) h.0 h.1

-- ---- wider intervals and hulls

pub has_within : (i j : Interval) (d : Decimal) → is_within i j ≡ true → has i d ≡ true → has j d ≡ true
has_within i j d w m =
    let o = and_parts (lower_covers j.0 i.0) (upper_covers j.1 i.1) w in
    let h = has_parts i d m in
    has_from j d (above_covered j.0 i.0 d o.0 h.0) (below_covered j.1 i.1 d o.1 h.1)

pub within_refl : (i : Interval) → is_within i i ≡ true
within_refl i = and_from (lower_covers i.0 i.0) (upper_covers i.1 i.1) (lower_covers_refl i.0) (upper_covers_refl i.1)

pub within_trans : (i j k : Interval) → is_within i j ≡ true → is_within j k ≡ true → is_within i k ≡ true
within_trans i j k w x =
    let o = and_parts (lower_covers j.0 i.0) (upper_covers j.1 i.1) w in
    let q = and_parts (lower_covers k.0 j.0) (upper_covers k.1 j.1) x in
    and_from (lower_covers k.0 i.0) (upper_covers k.1 i.1) (lower_covers_trans k.0 j.0 i.0 q.0 o.0) (upper_covers_trans k.1 j.1 i.1 q.1 o.1)

pub lower_hull_first : (l k : End) → lower_covers (cond (lower_covers l k) l k) l ≡ true
lower_hull_first l k =
    elim (cases_Bool (lower_covers l k)) [
      | inl t ↦ rw t (lower_covers_refl l)
      | inr f ↦ rw f (lower_covers_total l k f)
    ]

pub lower_hull_second : (l k : End) → lower_covers (cond (lower_covers l k) l k) k ≡ true
lower_hull_second l k =
    elim (cases_Bool (lower_covers l k)) [
      | inl t ↦ rw t t
      | inr f ↦ rw f (lower_covers_refl k)
    ]

pub upper_hull_first : (u v : End) → upper_covers (cond (upper_covers u v) u v) u ≡ true
upper_hull_first u v =
    elim (cases_Bool (upper_covers u v)) [
      | inl t ↦ rw t (upper_covers_refl u)
      | inr f ↦ rw f (upper_covers_total u v f)
    ]

pub upper_hull_second : (u v : End) → upper_covers (cond (upper_covers u v) u v) v ≡ true
upper_hull_second u v =
    elim (cases_Bool (upper_covers u v)) [
      | inl t ↦ rw t t
      | inr f ↦ rw f (upper_covers_refl v)
    ]

pub within_hull_first : (i j : Interval) → is_within i (hull_of i j) ≡ true
within_hull_first i j = and_from _ _ (lower_hull_first i.0 j.0) (upper_hull_first i.1 j.1)

pub within_hull_second : (i j : Interval) → is_within j (hull_of i j) ≡ true
within_hull_second i j = and_from _ _ (lower_hull_second i.0 j.0) (upper_hull_second i.1 j.1)

-- an interval around an inhabited one is inhabited
pub inhabited_wider : (i j : Interval) → is_within i j ≡ true → is_inhabited i.0 i.1 ≡ true → is_inhabited j.0 j.1 ≡ true
inhabited_wider i j w h =
    let m = inhabited_has i h in
    has_inhabited j m.0 (has_within i j m.0 w m.1)

pub hull_inhabited : (i j : Interval) → is_inhabited i.0 i.1 ≡ true → is_inhabited (hull_of i j).0 (hull_of i j).1 ≡ true
hull_inhabited i j h = inhabited_wider i (hull_of i j) (within_hull_first i j) h

pub hull_least : (i j k : Interval) → is_within i k ≡ true → is_within j k ≡ true → is_within (hull_of i j) k ≡ true
hull_least i j k w x =
    let o = and_parts (lower_covers k.0 i.0) (upper_covers k.1 i.1) w in
    let q = and_parts (lower_covers k.0 j.0) (upper_covers k.1 j.1) x in
    and_from (lower_covers k.0 (hull_of i j).0) (upper_covers k.1 (hull_of i j).1)
    (elim (cases_Bool (lower_covers i.0 j.0)) [ inl t ↦ rw t o.0 | inr f ↦ rw f q.0 ])
    (elim (cases_Bool (upper_covers i.1 j.1)) [ inl t ↦ rw t o.1 | inr f ↦ rw f q.1 ])
