-- The places of the ends of sums, differences and products of intervals.
use Rattle.std.proofs.Common.{◌≡◌, ℕ, ◌+◌, ◌≤◌, max, true, false, Bool, cond, ◌||◌, refl, subst, inl, inr, arith}
use Rattle.std.proofs.lemmas.Bool.{cases_Bool}
use Rattle.num_ends.specs.Decimal.{Decimal, origin}
use Rattle.num_ends.specs.declared.ends.End.{End}
use Rattle.num_ends.specs.declared.ends.End.TheVariants.{NegInf, Excl, Incl, PosInf}
use Rattle.num_ends.specs.Ends.{Interval, has, is_within, lower_covers, upper_covers, lower_hull, upper_hull}
use Rattle.num_ends.specs.Arithmetic.{HasPlaces, end_places, larger_places, lower_at, upper_at, lower_sum, upper_sum, outward_lower, outward_upper, outward_lower_sum, outward_upper_sum, outward_of, interval_sum, interval_difference, interval_product, mirrored_end, mirrored, is_closed_zero, is_open_zero, is_negative_end, infinite_product, exact_product, end_product, least_product, greatest_product}
use Rattle.num_ends.specs.Laws.{PlacesUpTo}
use Rattle.num_ends.proofs.Members.{has_within}
use Rattle.box_model.specs.Hold.{EndsHave}
use Rattle.num_ends.proofs.OutwardSteps.{outward_around, outward_lower_places, outward_upper_places, lower_at_places, upper_at_places}

-- ---- ends

pub few_of_places : (q : ℕ) (e : End) → HasPlaces q e → end_places e ≤ q
few_of_places q NegInf h = omega arith
few_of_places q (Excl d) h = omega (arith, h)
few_of_places q (Incl d) h = omega (arith, h)
few_of_places q PosInf h = omega arith

own_places : (e : End) → HasPlaces (end_places e) e
own_places NegInf = tt
own_places (Excl d) = refl
own_places (Incl d) = refl
own_places PosInf = tt

lower_sum_places : (q : ℕ) (x y : End) → HasPlaces q x → HasPlaces q y → HasPlaces q (lower_sum x y)
lower_sum_places q NegInf y h k = tt
lower_sum_places q PosInf y h k = tt
lower_sum_places q (Excl a) NegInf h k = tt
lower_sum_places q (Excl a) (Excl b) h k = omega (arith, h, k)
lower_sum_places q (Excl a) (Incl b) h k = omega (arith, h, k)
lower_sum_places q (Excl a) PosInf h k = tt
lower_sum_places q (Incl a) NegInf h k = tt
lower_sum_places q (Incl a) (Excl b) h k = omega (arith, h, k)
lower_sum_places q (Incl a) (Incl b) h k = omega (arith, h, k)
lower_sum_places q (Incl a) PosInf h k = tt

upper_sum_places : (q : ℕ) (x y : End) → HasPlaces q x → HasPlaces q y → HasPlaces q (upper_sum x y)
upper_sum_places q NegInf y h k = tt
upper_sum_places q PosInf y h k = tt
upper_sum_places q (Excl a) NegInf h k = tt
upper_sum_places q (Excl a) (Excl b) h k = omega (arith, h, k)
upper_sum_places q (Excl a) (Incl b) h k = omega (arith, h, k)
upper_sum_places q (Excl a) PosInf h k = tt
upper_sum_places q (Incl a) NegInf h k = tt
upper_sum_places q (Incl a) (Excl b) h k = omega (arith, h, k)
upper_sum_places q (Incl a) (Incl b) h k = omega (arith, h, k)
upper_sum_places q (Incl a) PosInf h k = tt

mirrored_places : (q : ℕ) (e : End) → HasPlaces q e → HasPlaces q (mirrored_end e)
mirrored_places q NegInf h = tt
mirrored_places q (Excl d) h = h
mirrored_places q (Incl d) h = h
mirrored_places q PosInf h = tt

outward_sum_lower : (p q : ℕ) (a b : End) → HasPlaces p a → HasPlaces q b → end_places (outward_lower_sum a b) ≤ max p q
outward_sum_lower p q a b h k =
    let l = larger_places a b in
    let few = few_of_places l (outward_lower_sum a b)
    (outward_lower_places l (lower_sum (lower_at l a) (lower_at l b)) (lower_sum_places l (lower_at l a) (lower_at l b) (lower_at_places l a) (lower_at_places l b))) in
    omega (arith, few, few_of_places p a h, few_of_places q b k)

outward_sum_upper : (p q : ℕ) (a b : End) → HasPlaces p a → HasPlaces q b → end_places (outward_upper_sum a b) ≤ max p q
outward_sum_upper p q a b h k =
    let l = larger_places a b in
    let few = few_of_places l (outward_upper_sum a b)
    (outward_upper_places l (upper_sum (upper_at l a) (upper_at l b)) (upper_sum_places l (upper_at l a) (upper_at l b) (upper_at_places l a) (upper_at_places l b))) in
    omega (arith, few, few_of_places p a h, few_of_places q b k)

infinite_places : (s t : Bool) → end_places (infinite_product s t) ≡ 0
infinite_places true true = refl
infinite_places true false = refl
infinite_places false true = refl
infinite_places false false = refl

exact_places : (a b : End) → end_places (exact_product a b) ≤ end_places a + end_places b
exact_places NegInf b = omega (arith, infinite_places true (is_negative_end b))
exact_places PosInf b = omega (arith, infinite_places false (is_negative_end b))
exact_places (Excl a) NegInf = omega (arith, infinite_places (is_negative_end (Excl a)) true)
exact_places (Excl a) (Excl b) = omega arith
exact_places (Excl a) (Incl b) = omega arith
exact_places (Excl a) PosInf = omega (arith, infinite_places (is_negative_end (Excl a)) false)
exact_places (Incl a) NegInf = omega (arith, infinite_places (is_negative_end (Incl a)) true)
exact_places (Incl a) (Excl b) = omega arith
exact_places (Incl a) (Incl b) = omega arith
exact_places (Incl a) PosInf = omega (arith, infinite_places (is_negative_end (Incl a)) false)

product_places : (p q : ℕ) (a b : End) → HasPlaces p a → HasPlaces q b → end_places (end_product a b) ≤ p + q
product_places p q a b h k =
    elim (cases_Bool (is_closed_zero a || is_closed_zero b)) [
      | inl z ↦ rw z (omega arith)
      | inr f ↦ elim (cases_Bool (is_open_zero a || is_open_zero b)) [
        | inl z ↦ rw (f, z) (omega arith)
        | inr g ↦ rw (f, g) (omega (arith, exact_places a b, few_of_places p a h, few_of_places q b k))
      ]
    ]

lower_hull_places : (q : ℕ) (a b : End) → end_places a ≤ q → end_places b ≤ q → end_places (lower_hull a b) ≤ q
lower_hull_places q a b h k = elim (lower_covers a b) as (λ v. end_places (cond v a b) ≤ q) [ true ↦ h | false ↦ k ]

upper_hull_places : (q : ℕ) (a b : End) → end_places a ≤ q → end_places b ≤ q → end_places (upper_hull a b) ≤ q
upper_hull_places q a b h k = elim (upper_covers a b) as (λ v. end_places (cond v a b) ≤ q) [ true ↦ h | false ↦ k ]

outward_lower_few : (e : End) → end_places (outward_lower e) ≤ end_places e
outward_lower_few e = few_of_places (end_places e) (outward_lower e) (outward_lower_places (end_places e) e (own_places e))

outward_upper_few : (e : End) → end_places (outward_upper e) ≤ end_places e
outward_upper_few e = few_of_places (end_places e) (outward_upper e) (outward_upper_places (end_places e) e (own_places e))

-- ---- intervals

pub sum_up_to : (p q : ℕ) (i j : Interval) → EndsHave p i → EndsHave q j → PlacesUpTo (max p q) (interval_sum i j)
sum_up_to p q i j h k =
    record { lower = outward_sum_lower p q i.0 j.0 h.lower k.lower; upper = outward_sum_upper p q i.1 j.1 h.upper k.upper }

pub difference_up_to : (p q : ℕ) (i j : Interval) → EndsHave p i → EndsHave q j → PlacesUpTo (max p q) (interval_difference i j)
difference_up_to p q i j h k =
    sum_up_to p q i (mirrored j) h (record { lower = mirrored_places q j.1 k.upper; upper = mirrored_places q j.0 k.lower })

pub product_up_to : (p q : ℕ) (i j : Interval) → EndsHave p i → EndsHave q j → PlacesUpTo (p + q) (interval_product i j)
product_up_to p q i j h k =
    let a = product_places p q i.0 j.0 h.lower k.lower in
    let b = product_places p q i.0 j.1 h.lower k.upper in
    let c = product_places p q i.1 j.0 h.upper k.lower in
    let d = product_places p q i.1 j.1 h.upper k.upper in
    let low = lower_hull_places (p + q) (lower_hull (end_product i.0 j.0) (end_product i.0 j.1)) (lower_hull (end_product i.1 j.0) (end_product i.1 j.1))
    (lower_hull_places (p + q) (end_product i.0 j.0) (end_product i.0 j.1) a b) (lower_hull_places (p + q) (end_product i.1 j.0) (end_product i.1 j.1) c d) in
    let high = upper_hull_places (p + q) (upper_hull (end_product i.0 j.0) (end_product i.0 j.1)) (upper_hull (end_product i.1 j.0) (end_product i.1 j.1))
    (upper_hull_places (p + q) (end_product i.0 j.0) (end_product i.0 j.1) a b) (upper_hull_places (p + q) (end_product i.1 j.0) (end_product i.1 j.1) c d) in
    record {
      lower = omega (arith, low, outward_lower_few (least_product i j));
      upper = omega (arith, high, outward_upper_few (greatest_product i j));
    }

pub moved_has : (q : ℕ) (i : Interval) (d : Decimal) → PlacesUpTo q i → has i d ≡ true → has (outward_of q i) d ≡ true
moved_has q i d few h = has_within i (outward_of q i) d (outward_around q i few.lower few.upper) h

pub moved_ends_have : (q : ℕ) (i : Interval) → EndsHave q (outward_of q i)
moved_ends_have q i = record { lower = lower_at_places q i.0; upper = upper_at_places q i.1 }
