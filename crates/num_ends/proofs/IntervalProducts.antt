-- The product of two intervals has the products of their members.
use Rattle.std.proofs.Common.{◌≡◌, true, false, ℤ, pos, ◌*ℤ◌, ◌+ℤ◌, ◌^◌, ◌-◌, int_lt, int_le, int_eq, refl, sym, ap, ap₂, ◌∙◌, subst, ◌⊎◌, inl, inr, true≢false, arith}
use Rattle.std.proofs.lemmas.Int.{ints}
use Rattle.std.proofs.lemmas.Bool.{cases_Bool}
use Rattle.std.proofs.Math.IntN.{*ℤ-zero}
use Rattle.num_ends.specs.Decimal.{Decimal, origin, is_at_most, number_at, common_places, sum_of, difference_of, product_of}
use Rattle.num_ends.specs.declared.ends.End.{End}
use Rattle.num_ends.specs.declared.ends.End.TheVariants.{NegInf, Excl, Incl, PosInf}
use Rattle.num_ends.specs.Ends.{Interval, is_above, is_below, has, is_inhabited, lower_hull, upper_hull}
use Rattle.num_ends.specs.Arithmetic.{negative_of, mirrored_end, mirrored, is_closed_zero, is_open_zero, is_negative_end, exact_product, end_product, least_product, greatest_product, interval_product, interval_difference, outward_lower, outward_upper}
use Rattle.num_ends.proofs.DecimalOrder.{less_is_most}
use Rattle.num_ends.proofs.Members.{above_covered, below_covered, has_parts, has_from, inhabited_has, has_inhabited, lower_hull_first, lower_hull_second, upper_hull_first, upper_hull_second}
use Rattle.num_ends.proofs.Operations.{IsPositive, IsNegative, IsZero, sign_of, positive_not_zero, positive_not_negative, negative_not_zero, zero_is_zero, zero_less, less_zero, zero_at_most, at_most_zero, negative_is_positive, product_negative, product_negatives, product_negative_positive, neg_scaled}
use Rattle.num_ends.proofs.EndProducts.{NotZero, along, product_closed_left, product_closed_right, product_exact, positive_factor}
use Rattle.num_ends.proofs.Mirrors.{above_mirrored, below_mirrored, zero_cases, end_product_comm, product_mirrored, product_both_mirrored}
use Rattle.num_ends.proofs.OutwardSteps.{outward_lower_covers, outward_upper_covers, sum_has}

-- ---- a factor that is negative

pub negative_factor : (u k v : End) (a b : Decimal) → IsNegative b → is_below u a ≡ true → is_above k b ≡ true → is_below v b ≡ true
    → (is_above (end_product u v) (product_of a b) ≡ true) ⊎ (is_above (end_product u k) (product_of a b) ≡ true)
negative_factor u k v a b nb h m n =
    let e = product_negatives a b in
    elim (positive_factor (mirrored_end u) (mirrored_end v) (mirrored_end k) (negative_of a) (negative_of b) (negative_is_positive b nb) (above_mirrored u a ∙ h) (above_mirrored v b ∙ n) (below_mirrored k b ∙ m)) [
      | inl x ↦ inl (along (product_of a b) (sym (product_both_mirrored u v)) (subst (λ (d : Decimal). is_above (end_product (mirrored_end u) (mirrored_end v)) d ≡ true) e x))
      | inr x ↦ inr (along (product_of a b) (sym (product_both_mirrored u k)) (subst (λ (d : Decimal). is_above (end_product (mirrored_end u) (mirrored_end k)) d ≡ true) e x))
    ]

-- ---- a factor that is 0

pub zero_above : (d : Decimal) → IsZero d → is_at_most origin d ≡ true
zero_above d z = zero_at_most origin d refl ∙ ap (λ (x : ℤ). int_le (pos 0) x) z

pub product_zero : (a b : Decimal) → IsZero b → IsZero (product_of a b)
product_zero a b z = ap (λ (x : ℤ). a.n *ℤ x) z ∙ *ℤ-zero a.n

pub positive_from : (c : Decimal) → int_eq c.n (pos 0) ≡ false → int_lt c.n (pos 0) ≡ false → IsPositive c
positive_from c x m =
    elim (sign_of c) [
      | inl z ↦ absurd (true≢false (sym (zero_is_zero c z) ∙ x))
      | inr s ↦ elim s [ inl p ↦ p | inr n ↦ absurd (true≢false (sym n ∙ m)) ]
    ]

-- a negative end times one that is not negative
opposite_above : (e k : End) (d : Decimal) → IsZero d → NotZero e → NotZero k → is_negative_end e ≡ true → is_negative_end k ≡ false → is_above (exact_product e k) d ≡ true
opposite_above NegInf NegInf d z x y h m = cc
opposite_above NegInf (Excl c) d z x y h m = rw m refl
opposite_above NegInf (Incl c) d z x y h m = rw m refl
opposite_above NegInf PosInf d z x y h m = refl
opposite_above (Excl a) NegInf d z x y h m = cc
opposite_above (Excl a) (Excl c) d z x y h m = less_zero (product_of a c) d z ∙ product_negative_positive a c h (positive_from c y.open_end m)
opposite_above (Excl a) (Incl c) d z x y h m = less_zero (product_of a c) d z ∙ product_negative_positive a c h (positive_from c y.closed m)
opposite_above (Excl a) PosInf d z x y h m = rw h refl
opposite_above (Incl a) NegInf d z x y h m = cc
opposite_above (Incl a) (Excl c) d z x y h m = less_zero (product_of a c) d z ∙ product_negative_positive a c h (positive_from c y.open_end m)
opposite_above (Incl a) (Incl c) d z x y h m = less_is_most (product_of a c) d (less_zero (product_of a c) d z ∙ product_negative_positive a c h (positive_from c y.closed m))
opposite_above (Incl a) PosInf d z x y h m = rw h refl
opposite_above PosInf k d z x y h m = cc

opposite : (e k : End) (d : Decimal) → IsZero d → NotZero e → NotZero k → is_negative_end e ≡ true → is_negative_end k ≡ false → is_above (end_product e k) d ≡ true
opposite e k d z x y h m = along d (product_exact e k x y) (opposite_above e k d z x y h m)

opposite_back : (e k : End) (d : Decimal) → IsZero d → NotZero e → NotZero k → is_negative_end e ≡ false → is_negative_end k ≡ true → is_above (end_product e k) d ≡ true
opposite_back e k d z x y h m = along d (end_product_comm e k) (opposite k e d z y x m h)

closed_left : (e k : End) (d : Decimal) → IsZero d → is_closed_zero e ≡ true → is_above (end_product e k) d ≡ true
closed_left e k d z h = along d (product_closed_left e k h) (zero_above d z)

closed_right : (e k : End) (d : Decimal) → IsZero d → is_closed_zero k ≡ true → is_above (end_product e k) d ≡ true
closed_right e k d z h = along d (product_closed_right e k h) (zero_above d z)

-- an end below 0 is a closed 0 or negative, one above it a closed 0 or not negative
lower_of_zero : (k : End) (b : Decimal) → IsZero b → is_above k b ≡ true → (is_closed_zero k ≡ true) ⊎ (NotZero k × (is_negative_end k ≡ true))
lower_of_zero NegInf b z h = inr (record { closed = refl; open_end = refl }, refl)
lower_of_zero (Excl y) b z h =
    let n : IsNegative y = sym (less_zero y b z) ∙ h in
    inr (record { closed = refl; open_end = negative_not_zero y n }, n)
lower_of_zero (Incl y) b z h =
    elim (sign_of y) [
      | inl o ↦ inl (zero_is_zero y o)
      | inr s ↦ elim s [
        | inl p ↦ absurd (positive_not_most y p (sym (at_most_zero y b z) ∙ h))
        | inr n ↦ inr (record { closed = negative_not_zero y n; open_end = refl }, n)
      ]
    ]
  where
    positive_not_most : (d : Decimal) → IsPositive d → int_le d.n (pos 0) ≡ true → ⊥
    positive_not_most d p m = omega (arith, ints)
lower_of_zero PosInf b z h = cc

upper_of_zero : (v : End) (b : Decimal) → IsZero b → is_below v b ≡ true → (is_closed_zero v ≡ true) ⊎ (NotZero v × (is_negative_end v ≡ false))
upper_of_zero NegInf b z h = cc
upper_of_zero (Excl y) b z h =
    let p : IsPositive y = sym (zero_less b y z) ∙ h in
    inr (record { closed = refl; open_end = positive_not_zero y p }, positive_not_negative y p)
upper_of_zero (Incl y) b z h =
    elim (sign_of y) [
      | inl o ↦ inl (zero_is_zero y o)
      | inr s ↦ elim s [
        | inl p ↦ inr (record { closed = positive_not_zero y p; open_end = refl }, positive_not_negative y p)
        | inr n ↦ absurd (negative_not_least y n (sym (zero_at_most b y z) ∙ h))
      ]
    ]
  where
    negative_not_least : (d : Decimal) → IsNegative d → int_le (pos 0) d.n ≡ true → ⊥
    negative_not_least d n m = omega (arith, ints)
upper_of_zero PosInf b z h = inr (record { closed = refl; open_end = refl }, refl)

-- both ends cannot be open at 0
open_both : (l u : End) (a : Decimal) → is_above l a ≡ true → is_below u a ≡ true → is_open_zero l ≡ true → is_open_zero u ≡ true → ⊥
open_both NegInf u a h k x y = cc
open_both (Excl l) NegInf a h k x y = cc
open_both (Excl l) (Excl u) a h k x y =
    let p : IsPositive a = sym (zero_less l a (from_test l x)) ∙ h in
    let n : IsNegative a = sym (less_zero a u (from_test u y)) ∙ k in
    both a p n
  where
    from_test : (d : Decimal) → int_eq d.n (pos 0) ≡ true → IsZero d
    from_test d t =
        elim (sign_of d) [
          | inl z ↦ z
          | inr s ↦ elim s [
            | inl p ↦ absurd (true≢false (sym t ∙ positive_not_zero d p))
            | inr n ↦ absurd (true≢false (sym t ∙ negative_not_zero d n))
          ]
        ]

    both : (d : Decimal) → IsPositive d → IsNegative d → ⊥
    both d p n = absurd (true≢false (sym n ∙ positive_not_negative d p))
open_both (Excl l) (Incl u) a h k x y = cc
open_both (Excl l) PosInf a h k x y = cc
open_both (Incl l) u a h k x y = cc
open_both PosInf u a h k x y = cc

-- ---- some product of ends lies below the product of members

abbrev pub SomeBelow : End → End → End → End → Decimal → Type 0
SomeBelow l u k v d =
    (is_above (end_product l k) d ≡ true) ⊎ ((is_above (end_product l v) d ≡ true) ⊎ ((is_above (end_product u k) d ≡ true) ⊎ (is_above (end_product u v) d ≡ true)))

-- an end that is not 0 has a product below 0 with an end on each side of 0
across : (e k v : End) (d : Decimal) → IsZero d → NotZero e → NotZero k → is_negative_end k ≡ true → NotZero v → is_negative_end v ≡ false
    → (is_above (end_product e k) d ≡ true) ⊎ (is_above (end_product e v) d ≡ true)
across e k v d z x y h w m =
    elim (cases_Bool (is_negative_end e)) [
      | inl t ↦ inr (opposite e v d z x w t m)
      | inr f ↦ inl (opposite_back e k d z x y f h)
    ]

zero_factor : (l u k v : End) (a b : Decimal) → IsZero b → is_above l a ≡ true → is_below u a ≡ true → is_above k b ≡ true → is_below v b ≡ true → SomeBelow l u k v (product_of a b)
zero_factor l u k v a b z hl hu hk hv =
    let d = product_of a b in
    let zd = product_zero a b z in
    elim (lower_of_zero k b z hk) [
      | inl t ↦ inl (closed_right l k d zd t)
      | inr nk ↦ elim (upper_of_zero v b z hv) [
        | inl t ↦ inr (inl (closed_right l v d zd t))
        | inr nv ↦ elim (zero_cases l) [
          | inl t ↦ inl (closed_left l k d zd t)
          | inr o ↦ elim o [
            | inr x ↦ elim (across l k v d zd x nk.0 nk.1 nv.0 nv.1) [ inl r ↦ inl r | inr r ↦ inr (inl r) ]
            | inl ol ↦ elim (zero_cases u) [
              | inl t ↦ inr (inr (inl (closed_left u k d zd t)))
              | inr q ↦ elim q [
                | inr y ↦ elim (across u k v d zd y nk.0 nk.1 nv.0 nv.1) [ inl r ↦ inr (inr (inl r)) | inr r ↦ inr (inr (inr r)) ]
                | inl ou ↦ absurd (open_both l u a hl hu ol.1 ou.1)
              ]
            ]
          ]
        ]
      ]
    ]

pub some_below : (l u k v : End) (a b : Decimal) → is_above l a ≡ true → is_below u a ≡ true → is_above k b ≡ true → is_below v b ≡ true → SomeBelow l u k v (product_of a b)
some_below l u k v a b hl hu hk hv =
    elim (sign_of b) [
      | inl z ↦ zero_factor l u k v a b z hl hu hk hv
      | inr s ↦ elim s [
        | inl p ↦ elim (positive_factor l k v a b p hl hk hv) [ inl r ↦ inl r | inr r ↦ inr (inl r) ]
        | inr n ↦ elim (negative_factor u k v a b n hu hk hv) [ inl r ↦ inr (inr (inr r)) | inr r ↦ inr (inr (inl r)) ]
      ]
    ]

-- the least of four lower ends is as far out as each
pub least_above : (a b c e : End) (d : Decimal) → (is_above a d ≡ true) ⊎ ((is_above b d ≡ true) ⊎ ((is_above c d ≡ true) ⊎ (is_above e d ≡ true)))
    → is_above (lower_hull (lower_hull a b) (lower_hull c e)) d ≡ true
least_above a b c e d (inl h) = above_covered (lower_hull (lower_hull a b) (lower_hull c e)) (lower_hull a b) d (lower_hull_first (lower_hull a b) (lower_hull c e)) (above_covered (lower_hull a b) a d (lower_hull_first a b) h)
least_above a b c e d (inr (inl h)) = above_covered (lower_hull (lower_hull a b) (lower_hull c e)) (lower_hull a b) d (lower_hull_first (lower_hull a b) (lower_hull c e)) (above_covered (lower_hull a b) b d (lower_hull_second a b) h)
least_above a b c e d (inr (inr (inl h))) = above_covered (lower_hull (lower_hull a b) (lower_hull c e)) (lower_hull c e) d (lower_hull_second (lower_hull a b) (lower_hull c e)) (above_covered (lower_hull c e) c d (lower_hull_first c e) h)
least_above a b c e d (inr (inr (inr h))) = above_covered (lower_hull (lower_hull a b) (lower_hull c e)) (lower_hull c e) d (lower_hull_second (lower_hull a b) (lower_hull c e)) (above_covered (lower_hull c e) e d (lower_hull_second c e) h)

pub greatest_below : (a b c e : End) (d : Decimal) → (is_below a d ≡ true) ⊎ ((is_below b d ≡ true) ⊎ ((is_below c d ≡ true) ⊎ (is_below e d ≡ true)))
    → is_below (upper_hull (upper_hull a b) (upper_hull c e)) d ≡ true
greatest_below a b c e d (inl h) = below_covered (upper_hull (upper_hull a b) (upper_hull c e)) (upper_hull a b) d (upper_hull_first (upper_hull a b) (upper_hull c e)) (below_covered (upper_hull a b) a d (upper_hull_first a b) h)
greatest_below a b c e d (inr (inl h)) = below_covered (upper_hull (upper_hull a b) (upper_hull c e)) (upper_hull a b) d (upper_hull_first (upper_hull a b) (upper_hull c e)) (below_covered (upper_hull a b) b d (upper_hull_second a b) h)
greatest_below a b c e d (inr (inr (inl h))) = below_covered (upper_hull (upper_hull a b) (upper_hull c e)) (upper_hull c e) d (upper_hull_second (upper_hull a b) (upper_hull c e)) (below_covered (upper_hull c e) c d (upper_hull_first c e) h)
greatest_below a b c e d (inr (inr (inr h))) = below_covered (upper_hull (upper_hull a b) (upper_hull c e)) (upper_hull c e) d (upper_hull_second (upper_hull a b) (upper_hull c e)) (below_covered (upper_hull c e) e d (upper_hull_second c e) h)

-- a product of a mirrored end, seen from the other side
turned : (e k : End) (a b : Decimal) → is_above (end_product (mirrored_end e) k) (product_of (negative_of a) b) ≡ true → is_below (end_product e k) (product_of a b) ≡ true
turned e k a b h =
    sym (above_mirrored (end_product e k) (product_of a b))
    ∙ ap₂ is_above (sym (product_mirrored e k)) (sym (product_negative a b)) ∙ h

pub product_has : (i j : Interval) (a b : Decimal) → has i a ≡ true → has j b ≡ true → has (interval_product i j) (product_of a b) ≡ true
product_has i j a b h m =
    let p = has_parts i a h in
    let q = has_parts j b m in
    let d = product_of a b in
    let low = some_below i.0 i.1 j.0 j.1 a b p.0 p.1 q.0 q.1 in
    let high = some_below (mirrored_end i.1) (mirrored_end i.0) j.0 j.1 (negative_of a) b (above_mirrored i.1 a ∙ p.1) (below_mirrored i.0 a ∙ p.0) q.0 q.1 in
    has_from (interval_product i j) d
    (above_covered (outward_lower (least_product i j)) (least_product i j) d (outward_lower_covers (least_product i j))
    (least_above (end_product i.0 j.0) (end_product i.0 j.1) (end_product i.1 j.0) (end_product i.1 j.1) d low))
    (below_covered (outward_upper (greatest_product i j)) (greatest_product i j) d (outward_upper_covers (greatest_product i j))
    (greatest_below (end_product i.0 j.0) (end_product i.0 j.1) (end_product i.1 j.0) (end_product i.1 j.1) d
    (elim high [
      | inl r ↦ inr (inr (inl (turned i.1 j.0 a b r)))
      | inr s ↦ elim s [
        | inl r ↦ inr (inr (inr (turned i.1 j.1 a b r)))
        | inr t ↦ elim t [
          | inl r ↦ inl (turned i.0 j.0 a b r)
          | inr r ↦ inr (inl (turned i.0 j.1 a b r))
        ]
      ]
    ])))

pub product_inhabited : (i j : Interval) → is_inhabited i.0 i.1 ≡ true → is_inhabited j.0 j.1 ≡ true → is_inhabited (interval_product i j).0 (interval_product i j).1 ≡ true
product_inhabited i j h k =
    let a = inhabited_has i h in
    let b = inhabited_has j k in
    has_inhabited (interval_product i j) (product_of a.0 b.0) (product_has i j a.0 b.0 a.1 b.1)

-- ---- differences

mirrored_has : (j : Interval) (b : Decimal) → has j b ≡ true → has (mirrored j) (negative_of b) ≡ true
mirrored_has j b h =
    let p = has_parts j b h in
    has_from (mirrored j) (negative_of b) (above_mirrored j.1 b ∙ p.1) (below_mirrored j.0 b ∙ p.0)

sum_negative : (a b : Decimal) → sum_of a (negative_of b) ≡ difference_of a b
sum_negative a b = ap (λ (n : ℤ). record { n = number_at (common_places a b) a +ℤ n; p = common_places a b }) (neg_scaled b.n (10 ^ (common_places a b - b.p)))

pub difference_has : (i j : Interval) (a b : Decimal) → has i a ≡ true → has j b ≡ true → has (interval_difference i j) (difference_of a b) ≡ true
difference_has i j a b h k =
    sym (ap (has (interval_difference i j)) (sum_negative a b)) ∙ sum_has i (mirrored j) a (negative_of b) h (mirrored_has j b k)
