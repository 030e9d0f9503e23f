-- What the tests of intervals say of members: laws in both directions.
use Rattle.std.proofs.Common.{◌≡◌, true, false, cond, refl, sym, ◌∙◌, inl, inr, true≢false}
use Rattle.std.proofs.lemmas.Bool.{and_from, and_parts, cases_Bool}
use Rattle.num_ends.specs.Decimal.{Decimal, origin, is_less, is_at_most}
use Rattle.num_ends.specs.declared.ends.End.{End}
use Rattle.num_ends.specs.declared.ends.End.TheVariants.{NegInf, Excl, Incl, PosInf}
use Rattle.num_ends.specs.Ends.{Interval, is_above, is_below, has, is_inhabited, is_end_below, lower_covers, upper_covers, is_within, may_less, may_less_equal, may_equal}
use Rattle.num_ends.specs.Laws.{MeetLess, MeetAtMost, MeetEqual, HoldsMembers}
use Rattle.num_ends.proofs.DecimalOrder.{less_trans, less_most_trans, most_less_trans, most_trans, less_is_most, most_refl, not_less_is_most, not_most_is_less, most_not_less, less_not_most, one_less, one_more, between, one_less_below, one_more_above, between_above, between_below}
use Rattle.num_ends.proofs.Members.{member_of, inhabited_has, has_parts, has_from, between_inhabits, above_rises, below_falls, above_covered, below_covered, lower_covers_refl, upper_covers_refl, lower_covers_total, upper_covers_total}

-- ---- the lesser and the greater of two decimals

lesser : Decimal → Decimal → Decimal
lesser a b = cond (is_less a b) a b

greater : Decimal → Decimal → Decimal
greater a b = cond (is_less a b) b a

lesser_first : (a b : Decimal) → is_at_most (lesser a b) a ≡ true
unfolding lesser
lesser_first a b = elim (cases_Bool (is_less a b)) [ inl t ↦ rw t (most_refl a) | inr f ↦ rw f (not_less_is_most a b f) ]

lesser_second : (a b : Decimal) → is_at_most (lesser a b) b ≡ true
unfolding lesser
lesser_second a b = elim (cases_Bool (is_less a b)) [ inl t ↦ rw t (less_is_most a b t) | inr f ↦ rw f (most_refl b) ]

greater_first : (a b : Decimal) → is_at_most a (greater a b) ≡ true
unfolding greater
greater_first a b = elim (cases_Bool (is_less a b)) [ inl t ↦ rw t (less_is_most a b t) | inr f ↦ rw f (most_refl a) ]

greater_second : (a b : Decimal) → is_at_most b (greater a b) ≡ true
unfolding greater
greater_second a b = elim (cases_Bool (is_less a b)) [ inl t ↦ rw t (most_refl b) | inr f ↦ rw f (not_less_is_most a b f) ]

lesser_above : (l : End) (a b : Decimal) → is_above l a ≡ true → is_above l b ≡ true → is_above l (lesser a b) ≡ true
unfolding lesser
lesser_above l a b h k = elim (cases_Bool (is_less a b)) [ inl t ↦ rw t h | inr f ↦ rw f k ]

greater_below : (u : End) (a b : Decimal) → is_below u a ≡ true → is_below u b ≡ true → is_below u (greater a b) ≡ true
unfolding greater
greater_below u a b h k = elim (cases_Bool (is_less a b)) [ inl t ↦ rw t k | inr f ↦ rw f h ]

-- a member that is at most z, where z is above the lower end, and one that is at least z, where z is below the upper end
member_up_to : (i : Interval) (x z : Decimal) → has i x ≡ true → is_above i.0 z ≡ true → (d : Decimal) × (has i d ≡ true) × (is_at_most d z ≡ true)
member_up_to i x z m h =
    let p = has_parts i x m in
    (lesser x z, has_from i (lesser x z) (lesser_above i.0 x z p.0 h) (below_falls i.1 (lesser x z) x (lesser_first x z) p.1), lesser_second x z)

member_from : (i : Interval) (x z : Decimal) → has i x ≡ true → is_below i.1 z ≡ true → (d : Decimal) × (has i d ≡ true) × (is_at_most z d ≡ true)
member_from i x z m h =
    let p = has_parts i x m in
    (greater x z, has_from i (greater x z) (above_rises i.0 x (greater x z) (greater_first x z) p.0) (greater_below i.1 x z p.1 h), greater_second x z)

-- ---- at most

pub meet_at_most : (i j : Interval) → is_inhabited i.0 i.1 ≡ true → is_inhabited j.0 j.1 ≡ true → may_less_equal i j ≡ true → MeetAtMost i j
meet_at_most i j hi hj h =
    let z = member_of i.0 j.1 h in
    let x = inhabited_has i hi in
    let y = inhabited_has j hj in
    let d = member_up_to i x.0 z.low x.1 z.above in
    let e = member_from j y.0 z.low y.1 z.below in
    (d.0, e.0, d.1, e.1, most_trans d.0 z.low e.0 d.2 e.2)

pub at_most_met : (i j : Interval) (d e : Decimal) → has i d ≡ true → has j e ≡ true → is_at_most d e ≡ true → may_less_equal i j ≡ true
at_most_met i j d e m n o = between_inhabits i.0 j.1 d e o (has_parts i d m).0 (has_parts j e n).1

-- ---- less

record Apart (l u : End) : Type 0 where
  low : Decimal
  high : Decimal
  above : is_above l low ≡ true
  below : is_below u high ≡ true
  less : is_less low high ≡ true

pair_of : (l u : End) → is_end_below l u ≡ true → Apart l u
pair_of PosInf u h = cc
pair_of NegInf NegInf h = cc
pair_of NegInf (Excl b) h = record { low = one_less (one_less b); high = one_less b; above = refl; below = one_less_below b; less = one_less_below (one_less b) }
pair_of NegInf (Incl b) h = record { low = one_less b; high = b; above = refl; below = most_refl b; less = one_less_below b }
pair_of NegInf PosInf h = record { low = origin; high = one_more origin; above = refl; below = refl; less = one_more_above origin }
pair_of (Excl a) NegInf h = cc
pair_of (Excl a) (Excl b) h =
    let m = between_below a b h in
    record { low = between a b; high = between (between a b) b; above = between_above a b h; below = between_below (between a b) b m; less = between_above (between a b) b m }
pair_of (Excl a) (Incl b) h = record { low = between a b; high = b; above = between_above a b h; below = most_refl b; less = between_below a b h }
pair_of (Excl a) PosInf h = record { low = one_more a; high = one_more (one_more a); above = one_more_above a; below = refl; less = one_more_above (one_more a) }
pair_of (Incl a) NegInf h = cc
pair_of (Incl a) (Excl b) h = record { low = a; high = between a b; above = most_refl a; below = between_below a b h; less = between_above a b h }
pair_of (Incl a) (Incl b) h = record { low = a; high = b; above = most_refl a; below = most_refl b; less = h }
pair_of (Incl a) PosInf h = record { low = a; high = one_more a; above = most_refl a; below = refl; less = one_more_above a }

pub meet_less : (i j : Interval) → is_inhabited i.0 i.1 ≡ true → is_inhabited j.0 j.1 ≡ true → may_less i j ≡ true → MeetLess i j
meet_less i j hi hj h =
    let z = pair_of i.0 j.1 h in
    let x = inhabited_has i hi in
    let y = inhabited_has j hj in
    let d = member_up_to i x.0 z.low x.1 z.above in
    let e = member_from j y.0 z.high y.1 z.below in
    (d.0, e.0, d.1, e.1, most_less_trans d.0 z.low e.0 d.2 (less_most_trans z.low z.high e.0 z.less e.2))

end_below : (l u : End) (d e : Decimal) → is_less d e ≡ true → is_above l d ≡ true → is_below u e ≡ true → is_end_below l u ≡ true
end_below PosInf u d e o h k = h
end_below NegInf NegInf d e o h k = k
end_below NegInf (Excl b) d e o h k = refl
end_below NegInf (Incl b) d e o h k = refl
end_below NegInf PosInf d e o h k = refl
end_below (Excl a) NegInf d e o h k = k
end_below (Excl a) (Excl b) d e o h k = less_trans a e b (less_trans a d e h o) k
end_below (Excl a) (Incl b) d e o h k = less_most_trans a e b (less_trans a d e h o) k
end_below (Excl a) PosInf d e o h k = refl
end_below (Incl a) NegInf d e o h k = k
end_below (Incl a) (Excl b) d e o h k = less_trans a e b (most_less_trans a d e h o) k
end_below (Incl a) (Incl b) d e o h k = less_most_trans a e b (most_less_trans a d e h o) k
end_below (Incl a) PosInf d e o h k = refl

pub less_met : (i j : Interval) (d e : Decimal) → has i d ≡ true → has j e ≡ true → is_less d e ≡ true → may_less i j ≡ true
less_met i j d e m n o = end_below i.0 j.1 d e o (has_parts i d m).0 (has_parts j e n).1

-- ---- equal

-- a decimal between the inner ends is in both
between_both : (i j : Interval) (l u : End) → is_inhabited l u ≡ true → lower_covers i.0 l ≡ true → lower_covers j.0 l ≡ true → upper_covers i.1 u ≡ true → upper_covers j.1 u ≡ true → MeetEqual i j
between_both i j l u h a b c d =
    let z = member_of l u h in (
      z.low,
      has_from i z.low (above_covered i.0 l z.low a z.above) (below_covered i.1 u z.low c z.below),
      has_from j z.low (above_covered j.0 l z.low b z.above) (below_covered j.1 u z.low d z.below),
    )

pub meet_equal : (i j : Interval) → is_inhabited i.0 i.1 ≡ true → is_inhabited j.0 j.1 ≡ true → may_equal i j ≡ true → MeetEqual i j
meet_equal i j hi hj h =
    let p = and_parts (may_less_equal i j) (may_less_equal j i) h in
    elim (cases_Bool (lower_covers i.0 j.0)) [
      | inl t ↦ elim (cases_Bool (upper_covers i.1 j.1)) [
        | inl u ↦ between_both i j j.0 j.1 hj t (lower_covers_refl j.0) u (upper_covers_refl j.1)
        | inr g ↦ between_both i j j.0 i.1 p.1 t (lower_covers_refl j.0) (upper_covers_refl i.1) (upper_covers_total i.1 j.1 g)
      ]
      | inr f ↦ elim (cases_Bool (upper_covers i.1 j.1)) [
        | inl u ↦ between_both i j i.0 j.1 p.0 (lower_covers_refl i.0) (lower_covers_total i.0 j.0 f) u (upper_covers_refl j.1)
        | inr g ↦ between_both i j i.0 i.1 hi (lower_covers_refl i.0) (lower_covers_total i.0 j.0 f) (upper_covers_refl i.1) (upper_covers_total i.1 j.1 g)
      ]
    ]

pub equal_met : (i j : Interval) (d : Decimal) → has i d ≡ true → has j d ≡ true → may_equal i j ≡ true
equal_met i j d m n =
    and_from (may_less_equal i j) (may_less_equal j i) (at_most_met i j d d m n (most_refl d)) (at_most_met j i d d n m (most_refl d))

-- ---- within

-- an end that is not as far out leaves a decimal out
left_out_below : (l k : End) (x : Decimal) → is_above k x ≡ true → lower_covers l k ≡ false → (z : Decimal) × (is_above k z ≡ true) × (is_above l z ≡ false)
left_out_below NegInf k x m h = cc
left_out_below (Excl a) NegInf x m h = (a, refl, most_not_less a a (most_refl a))
left_out_below (Excl a) (Excl b) x m h =
    let o = not_most_is_less a b h in
    (between b a, between_above b a o, most_not_less (between b a) a (less_is_most (between b a) a (between_below b a o)))
left_out_below (Excl a) (Incl b) x m h = (b, most_refl b, h)
left_out_below (Excl a) PosInf x m h = cc
left_out_below (Incl a) NegInf x m h = (one_less a, refl, less_not_most (one_less a) a (one_less_below a))
left_out_below (Incl a) (Excl b) x m h =
    let o = not_most_is_less a b h in
    (between b a, between_above b a o, less_not_most (between b a) a (between_below b a o))
left_out_below (Incl a) (Incl b) x m h = (b, most_refl b, h)
left_out_below (Incl a) PosInf x m h = cc
left_out_below PosInf NegInf x m h = (x, m, refl)
left_out_below PosInf (Excl b) x m h = (x, m, refl)
left_out_below PosInf (Incl b) x m h = (x, m, refl)
left_out_below PosInf PosInf x m h = cc

left_out_above : (u v : End) (x : Decimal) → is_below v x ≡ true → upper_covers u v ≡ false → (z : Decimal) × (is_below v z ≡ true) × (is_below u z ≡ false)
left_out_above PosInf v x m h = cc
left_out_above (Excl a) PosInf x m h = (a, refl, most_not_less a a (most_refl a))
left_out_above (Excl a) (Excl b) x m h =
    let o = not_most_is_less b a h in
    (between a b, between_below a b o, most_not_less a (between a b) (less_is_most a (between a b) (between_above a b o)))
left_out_above (Excl a) (Incl b) x m h = (b, most_refl b, h)
left_out_above (Excl a) NegInf x m h = cc
left_out_above (Incl a) PosInf x m h = (one_more a, refl, less_not_most a (one_more a) (one_more_above a))
left_out_above (Incl a) (Excl b) x m h =
    let o = not_most_is_less b a h in
    (between a b, between_below a b o, less_not_most a (between a b) (between_above a b o))
left_out_above (Incl a) (Incl b) x m h = (b, most_refl b, h)
left_out_above (Incl a) NegInf x m h = cc
left_out_above NegInf PosInf x m h = (x, m, refl)
left_out_above NegInf (Excl b) x m h = (x, m, refl)
left_out_above NegInf (Incl b) x m h = (x, m, refl)
left_out_above NegInf NegInf x m h = cc

pub members_within : (i j : Interval) → is_inhabited i.0 i.1 ≡ true → HoldsMembers i j → is_within i j ≡ true
members_within i j hi all =
    let x = inhabited_has i hi in
    let p = has_parts i x.0 x.1 in
    and_from (lower_covers j.0 i.0) (upper_covers j.1 i.1)
    (elim (cases_Bool (lower_covers j.0 i.0)) [
      | inl t ↦ t
      | inr f ↦
          let z = left_out_below j.0 i.0 x.0 p.0 f in
          let d = member_up_to i x.0 z.0 x.1 z.1 in
          let k = above_rises j.0 d.0 z.0 d.2 (has_parts j d.0 (all d.0 d.1)).0 in
          absurd (true≢false (sym k ∙ z.2))
    ])
    (elim (cases_Bool (upper_covers j.1 i.1)) [
      | inl t ↦ t
      | inr f ↦
          let z = left_out_above j.1 i.1 x.0 p.1 f in
          let d = member_from i x.0 z.0 x.1 z.1 in
          let k = below_falls j.1 z.0 d.0 d.2 (has_parts j d.0 (all d.0 d.1)).1 in
          absurd (true≢false (sym k ∙ z.2))
    ])
