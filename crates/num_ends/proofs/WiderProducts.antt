-- Wider intervals have wider products.
use Rattle.std.proofs.Common.{◌≡◌, ℕ, ◌+◌, Bool, true, false, pos, int_lt, int_le, int_eq, refl, sym, ap, ap₂, ◌∙◌, subst, ◌⊎◌, inl, inr, true≢false, arith}
use Rattle.std.proofs.lemmas.Int.{ints}
use Rattle.std.proofs.lemmas.Bool.{cases_Bool, and_from, and_parts}
use Rattle.num_ends.specs.Decimal.{Decimal, origin, is_at_most, product_of}
use Rattle.num_ends.specs.declared.ends.End.{End}
use Rattle.num_ends.specs.declared.ends.End.TheVariants.{NegInf, Excl, Incl, PosInf}
use Rattle.num_ends.specs.Ends.{Interval, is_above, is_below, is_inhabited, lower_covers, upper_covers, lower_hull, upper_hull, is_within}
use Rattle.num_ends.specs.Arithmetic.{HasPlaces, is_closed_zero, is_open_zero, is_negative_end, infinite_product, exact_product, end_product, least_product, greatest_product, interval_product, mirrored_end, negative_of}
use Rattle.num_ends.specs.Laws.{BothPlaces}
use Rattle.num_ends.proofs.DecimalOrder.{less_is_most, most_refl}
use Rattle.num_ends.proofs.Members.{lower_covers_trans, upper_covers_trans, lower_hull_first, lower_hull_second, has_parts, has_within, inhabited_has}
use Rattle.num_ends.proofs.Operations.{IsNegative, IsZero, sign_of, positive_not_zero, positive_not_negative, negative_not_zero, zero_is_zero, less_zero, zero_at_most, at_most_zero, product_comm}
use Rattle.num_ends.proofs.EndProducts.{NotZero, product_closed_left, product_closed_right, product_open_left, product_open_right, product_exact, positive_up}
use Rattle.num_ends.proofs.Mirrors.{above_mirrored, below_mirrored, zero_cases, not_closed, end_product_comm, product_mirrored, product_both_mirrored, closed_zero_mirrored}
use Rattle.num_ends.proofs.IntervalProducts.{some_below, product_zero, positive_from}
use Rattle.num_ends.proofs.Clips.{EndLevel, covers_mirrored, hull_mirrored, product_level, lower_hull_level, upper_hull_level}
use Rattle.num_ends.proofs.Widening.{outward_lower_wider, outward_upper_wider, upper_covers_mirrored}

-- an end lies between two others, taken as a lower and as an upper end
pub record Inside (l u x : End) : Type 0 where
  pub lower : lower_covers l x ≡ true
  pub upper : upper_covers u x ≡ true

-- some of the four products is as far out as an end
abbrev pub SomeCovers : End → End → End → End → End → Type 0
SomeCovers l u k v e =
    (lower_covers (end_product l k) e ≡ true) ⊎ ((lower_covers (end_product l v) e ≡ true) ⊎ ((lower_covers (end_product u k) e ≡ true) ⊎ (lower_covers (end_product u v) e ≡ true)))

some_map : (P Q : End → Type 0) (l u k v : End) → ((e : End) → P e → Q e)
    → (P (end_product l k)) ⊎ ((P (end_product l v)) ⊎ ((P (end_product u k)) ⊎ (P (end_product u v))))
    → (Q (end_product l k)) ⊎ ((Q (end_product l v)) ⊎ ((Q (end_product u k)) ⊎ (Q (end_product u v))))
some_map P Q l u k v f (inl h) = inl (f (end_product l k) h)
some_map P Q l u k v f (inr (inl h)) = inr (inl (f (end_product l v) h))
some_map P Q l u k v f (inr (inr (inl h))) = inr (inr (inl (f (end_product u k) h)))
some_map P Q l u k v f (inr (inr (inr h))) = inr (inr (inr (f (end_product u v) h)))

-- ---- ends and decimals

-- to cover a closed end is to have its decimal on the inner side
covers_closed : (e : End) (d : Decimal) → is_above e d ≡ true → lower_covers e (Incl d) ≡ true
covers_closed NegInf d h = refl
covers_closed (Excl c) d h = h
covers_closed (Incl c) d h = h
covers_closed PosInf d h = h

covered_closed : (e : End) (d : Decimal) → lower_covers e (Incl d) ≡ true → is_above e d ≡ true
covered_closed NegInf d h = refl
covered_closed (Excl c) d h = h
covered_closed (Incl c) d h = h
covered_closed PosInf d h = h

under_closed : (e : End) (d : Decimal) → upper_covers e (Incl d) ≡ true → is_below e d ≡ true
under_closed NegInf d h = h
under_closed (Excl c) d h = h
under_closed (Incl c) d h = h
under_closed PosInf d h = refl

-- an end with its decimal let in
closure : End → End
closure NegInf = NegInf
closure (Excl d) = Incl d
closure (Incl d) = Incl d
closure PosInf = PosInf

closure_above : (e : End) (d : Decimal) → lower_covers e (Excl d) ≡ true → is_above (closure e) d ≡ true
unfolding closure
closure_above NegInf d h = refl
closure_above (Excl c) d h = h
closure_above (Incl c) d h = h
closure_above PosInf d h = cc

closure_above_closed : (e : End) (d : Decimal) → lower_covers e (Incl d) ≡ true → is_above (closure e) d ≡ true
unfolding closure
closure_above_closed NegInf d h = refl
closure_above_closed (Excl c) d h = less_is_most c d h
closure_above_closed (Incl c) d h = h
closure_above_closed PosInf d h = cc

closure_below : (e : End) (d : Decimal) → upper_covers e (Excl d) ≡ true → is_below (closure e) d ≡ true
unfolding closure
closure_below PosInf d h = refl
closure_below (Excl c) d h = h
closure_below (Incl c) d h = h
closure_below NegInf d h = cc

closure_below_closed : (e : End) (d : Decimal) → upper_covers e (Incl d) ≡ true → is_below (closure e) d ≡ true
unfolding closure
closure_below_closed PosInf d h = refl
closure_below_closed (Excl c) d h = less_is_most d c h
closure_below_closed (Incl c) d h = h
closure_below_closed NegInf d h = cc

covers_open : (e : End) (d : Decimal) → is_above (closure e) d ≡ true → lower_covers e (Excl d) ≡ true
unfolding closure
covers_open NegInf d h = refl
covers_open (Excl c) d h = h
covers_open (Incl c) d h = h
covers_open PosInf d h = cc

closure_closed_zero : (e : End) → is_closed_zero e ≡ true → is_closed_zero (closure e) ≡ true
unfolding closure
closure_closed_zero NegInf h = cc
closure_closed_zero (Excl d) h = cc
closure_closed_zero (Incl d) h = h
closure_closed_zero PosInf h = cc

closure_open_zero : (e : End) → is_open_zero e ≡ true → is_closed_zero (closure e) ≡ true
unfolding closure
closure_open_zero NegInf h = cc
closure_open_zero (Excl d) h = h
closure_open_zero (Incl d) h = cc
closure_open_zero PosInf h = cc

closure_not_zero : (e : End) → NotZero e → NotZero (closure e)
unfolding closure
closure_not_zero NegInf x = record { closed = refl; open_end = refl }
closure_not_zero (Excl d) x = record { closed = x.open_end; open_end = refl }
closure_not_zero (Incl d) x = record { closed = x.closed; open_end = refl }
closure_not_zero PosInf x = record { closed = refl; open_end = refl }

closure_infinite : (s t : Bool) → closure (infinite_product s t) ≡ infinite_product s t
unfolding closure
closure_infinite true true = refl
closure_infinite true false = refl
closure_infinite false true = refl
closure_infinite false false = refl

closure_exact : (a b : End) → closure (exact_product a b) ≡ exact_product (closure a) (closure b)
unfolding closure
closure_exact NegInf NegInf = refl
closure_exact NegInf (Excl b) = closure_infinite true (int_lt b.n (pos 0))
closure_exact NegInf (Incl b) = closure_infinite true (int_lt b.n (pos 0))
closure_exact NegInf PosInf = refl
closure_exact (Excl a) NegInf = closure_infinite (int_lt a.n (pos 0)) true
closure_exact (Excl a) (Excl b) = refl
closure_exact (Excl a) (Incl b) = refl
closure_exact (Excl a) PosInf = closure_infinite (int_lt a.n (pos 0)) false
closure_exact (Incl a) NegInf = closure_infinite (int_lt a.n (pos 0)) true
closure_exact (Incl a) (Excl b) = refl
closure_exact (Incl a) (Incl b) = refl
closure_exact (Incl a) PosInf = closure_infinite (int_lt a.n (pos 0)) false
closure_exact PosInf NegInf = refl
closure_exact PosInf (Excl b) = closure_infinite false (int_lt b.n (pos 0))
closure_exact PosInf (Incl b) = closure_infinite false (int_lt b.n (pos 0))
closure_exact PosInf PosInf = refl

-- the product of the closures has the value of the product
closure_product : (a b : End) → closure (end_product a b) ≡ end_product (closure a) (closure b)
unfolding closure
closure_product a b =
    elim (zero_cases a) [
      | inl t ↦ ap closure (product_closed_left a b t) ∙ sym (product_closed_left (closure a) (closure b) (closure_closed_zero a t))
      | inr x ↦ elim (zero_cases b) [
        | inl t ↦ ap closure (product_closed_right a b t) ∙ sym (product_closed_right (closure a) (closure b) (closure_closed_zero b t))
        | inr y ↦
            let ca = not_closed a x in
            let cb = not_closed b y in
            elim x [
              | inl h ↦ ap closure (product_open_left a b ca cb h.1) ∙ sym (product_closed_left (closure a) (closure b) (closure_open_zero a h.1))
              | inr nx ↦ elim y [
                | inl h ↦ ap closure (product_open_right a b ca cb h.1) ∙ sym (product_closed_right (closure a) (closure b) (closure_open_zero b h.1))
                | inr ny ↦ ap closure (product_exact a b nx ny) ∙ closure_exact a b ∙ sym (product_exact (closure a) (closure b) (closure_not_zero a nx) (closure_not_zero b ny))
              ]
            ]
      ]
    ]

-- ---- two finite ends

-- of two members of the closures the product has some product of ends before it, which then covers its open end
open_covered : (l u k v : End) (a b : Decimal) → is_above (closure l) a ≡ true → is_below (closure u) a ≡ true → is_above (closure k) b ≡ true → is_below (closure v) b ≡ true
    → SomeCovers l u k v (Excl (product_of a b))
open_covered l u k v a b hl hu hk hv =
    elim (some_below (closure l) (closure u) (closure k) (closure v) a b hl hu hk hv) [
      | inl h ↦ inl (turn l k h)
      | inr s ↦ elim s [
        | inl h ↦ inr (inl (turn l v h))
        | inr t ↦ elim t [
          | inl h ↦ inr (inr (inl (turn u k h)))
          | inr h ↦ inr (inr (inr (turn u v h)))
        ]
      ]
    ]
  where
    turn : (x y : End) → is_above (end_product (closure x) (closure y)) (product_of a b) ≡ true → lower_covers (end_product x y) (Excl (product_of a b)) ≡ true
    turn x y h = covers_open (end_product x y) (product_of a b) (ap (λ (e : End). is_above e (product_of a b)) (closure_product x y) ∙ h)

closed_covered : (l u k v : End) (a b : Decimal) → is_above l a ≡ true → is_below u a ≡ true → is_above k b ≡ true → is_below v b ≡ true
    → SomeCovers l u k v (Incl (product_of a b))
closed_covered l u k v a b hl hu hk hv =
    some_map (λ (e : End). is_above e (product_of a b) ≡ true) (λ (e : End). lower_covers e (Incl (product_of a b)) ≡ true) l u k v
    (λ e. covers_closed e (product_of a b)) (some_below l u k v a b hl hu hk hv)

-- where the decimal is 0 an end that covers it covers the end at the origin
origin_closed : (e : End) (d : Decimal) → IsZero d → is_above e d ≡ true → lower_covers e (Incl origin) ≡ true
origin_closed NegInf d z h = refl
origin_closed (Excl c) d z h = less_zero c origin refl ∙ sym (less_zero c d z) ∙ h
origin_closed (Incl c) d z h = at_most_zero c origin refl ∙ sym (at_most_zero c d z) ∙ h
origin_closed PosInf d z h = h

origin_open : (e : End) (d : Decimal) → IsZero d → lower_covers e (Excl d) ≡ true → lower_covers e (Excl origin) ≡ true
origin_open NegInf d z h = refl
origin_open (Excl c) d z h = at_most_zero c origin refl ∙ sym (at_most_zero c d z) ∙ h
origin_open (Incl c) d z h = at_most_zero c origin refl ∙ sym (at_most_zero c d z) ∙ h
origin_open PosInf d z h = cc

-- to cover a closed end is more than to cover the open one
open_from_closed : (e : End) (d : Decimal) → lower_covers e (Incl d) ≡ true → lower_covers e (Excl d) ≡ true
open_from_closed NegInf d h = refl
open_from_closed (Excl c) d h = less_is_most c d h
open_from_closed (Incl c) d h = h
open_from_closed PosInf d h = cc

-- ---- a closed 0

zero_left : (a b : Decimal) → IsZero a → IsZero (product_of a b)
zero_left a b z = ap (λ (d : Decimal). d.n) (product_comm a b) ∙ product_zero b a z

from_test : (d : Decimal) → int_eq d.n (pos 0) ≡ true → IsZero d
from_test d t =
    elim (sign_of d) [
      | inl z ↦ z
      | inr s ↦ elim s [
        | inl p ↦ absurd (true≢false (sym t ∙ positive_not_zero d p))
        | inr n ↦ absurd (true≢false (sym t ∙ negative_not_zero d n))
      ]
    ]

closed_zero_covered : (l u k v x : End) (b : Decimal) → Inside l u x → is_closed_zero x ≡ true → is_above k b ≡ true → is_below v b ≡ true → SomeCovers l u k v (Incl origin)
closed_zero_covered l u k v NegInf b i h hk hv = cc
closed_zero_covered l u k v (Excl a) b i h hk hv = cc
closed_zero_covered l u k v (Incl a) b i h hk hv =
    some_map (λ (e : End). is_above e (product_of a b) ≡ true) (λ (e : End). lower_covers e (Incl origin) ≡ true) l u k v
    (λ e. origin_closed e (product_of a b) (zero_left a b (from_test a h)))
    (some_below l u k v a b (covered_closed l a i.lower) (under_closed u a i.upper) hk hv)
closed_zero_covered l u k v PosInf b i h hk hv = cc

-- ---- two finite ends that are no closed 0

-- a finite end with its decimal, which the closures around it have
record Held (l u x : End) (a : Decimal) : Type 0 where
  above : is_above (closure l) a ≡ true
  below : is_below (closure u) a ≡ true
  open_zero : is_open_zero x ≡ true → IsZero a

open_held : (l u : End) (a : Decimal) → Inside l u (Excl a) → Held l u (Excl a) a
open_held l u a i = record { above = closure_above l a i.lower; below = closure_below u a i.upper; open_zero = from_test a }

closed_held : (l u : End) (a : Decimal) → Inside l u (Incl a) → Held l u (Incl a) a
closed_held l u a i = record { above = closure_above_closed l a i.lower; below = closure_below_closed u a i.upper; open_zero = λ h. absurd (true≢false (sym h)) }

-- where their product is open
open_product_covered : (l u k v x y : End) (a b : Decimal) → Held l u x a → Held k v y b → is_closed_zero x ≡ false → is_closed_zero y ≡ false
    → exact_product x y ≡ Excl (product_of a b) → SomeCovers l u k v (end_product x y)
open_product_covered l u k v x y a b hx hy cx cy e =
    let base = open_covered l u k v a b hx.above hx.below hy.above hy.below in
    elim (cases_Bool (is_open_zero x)) [
      | inl t ↦ subst (SomeCovers l u k v) (sym (product_open_left x y cx cy t)) (at_origin base (zero_left a b (hx.open_zero t)))
      | inr f ↦ elim (cases_Bool (is_open_zero y)) [
        | inl t ↦ subst (SomeCovers l u k v) (sym (product_open_right x y cx cy t)) (at_origin base (product_zero a b (hy.open_zero t)))
        | inr g ↦ subst (SomeCovers l u k v) (sym (product_exact x y (record { closed = cx; open_end = f }) (record { closed = cy; open_end = g }) ∙ e)) base
      ]
    ]
  where
    at_origin : SomeCovers l u k v (Excl (product_of a b)) → IsZero (product_of a b) → SomeCovers l u k v (Excl origin)
    at_origin s z = some_map (λ (e : End). lower_covers e (Excl (product_of a b)) ≡ true) (λ (e : End). lower_covers e (Excl origin) ≡ true) l u k v
        (λ e. origin_open e (product_of a b) z) s

-- ---- an infinite end

covers_infinite : (e : End) → lower_covers e PosInf ≡ true
covers_infinite NegInf = refl
covers_infinite (Excl d) = refl
covers_infinite (Incl d) = refl
covers_infinite PosInf = refl

-- an upper end past a positive one is positive, and one past an open 0 is 0 or positive
upper_of_positive : (v y : End) → NotZero y → is_negative_end y ≡ false → upper_covers v y ≡ true → NotZero v × (is_negative_end v ≡ false)
upper_of_positive PosInf y n s h = (record { closed = refl; open_end = refl }, refl)
upper_of_positive (Excl a) NegInf n s h = cc
upper_of_positive (Excl a) (Excl b) n s h =
    let p = positive_up b a (positive_from b n.open_end s) h in
    (record { closed = refl; open_end = positive_not_zero a p }, positive_not_negative a p)
upper_of_positive (Excl a) (Incl b) n s h =
    let p = positive_up b a (positive_from b n.closed s) (less_is_most b a h) in
    (record { closed = refl; open_end = positive_not_zero a p }, positive_not_negative a p)
upper_of_positive (Excl a) PosInf n s h = cc
upper_of_positive (Incl a) NegInf n s h = cc
upper_of_positive (Incl a) (Excl b) n s h =
    let p = positive_up b a (positive_from b n.open_end s) h in
    (record { closed = positive_not_zero a p; open_end = refl }, positive_not_negative a p)
upper_of_positive (Incl a) (Incl b) n s h =
    let p = positive_up b a (positive_from b n.closed s) h in
    (record { closed = positive_not_zero a p; open_end = refl }, positive_not_negative a p)
upper_of_positive (Incl a) PosInf n s h = cc
upper_of_positive NegInf NegInf n s h = cc
upper_of_positive NegInf (Excl b) n s h = cc
upper_of_positive NegInf (Incl b) n s h = cc
upper_of_positive NegInf PosInf n s h = cc

not_below_zero : (a b : Decimal) → IsZero b → is_at_most b a ≡ true → int_eq a.n (pos 0) ≡ false → int_lt a.n (pos 0) ≡ false
not_below_zero a b z h n =
    elim (sign_of a) [
      | inl o ↦ absurd (true≢false (sym (zero_is_zero a o) ∙ n))
      | inr s ↦ elim s [
        | inl p ↦ positive_not_negative a p
        | inr q ↦ absurd (negative_most a q (sym (zero_at_most b a z) ∙ h))
      ]
    ]
  where
    negative_most : (d : Decimal) → IsNegative d → int_le (pos 0) d.n ≡ true → ⊥
    negative_most d q m = omega (arith, ints)

upper_of_open_zero : (v : End) (b : Decimal) → IsZero b → upper_covers v (Excl b) ≡ true → NotZero v → is_negative_end v ≡ false
upper_of_open_zero PosInf b z h n = refl
upper_of_open_zero (Excl a) b z h n = not_below_zero a b z h n.open_end
upper_of_open_zero (Incl a) b z h n = not_below_zero a b z h n.closed
upper_of_open_zero NegInf b z h n = cc

exact_low : (e : End) → is_negative_end e ≡ false → exact_product NegInf e ≡ NegInf
exact_low NegInf f = cc
exact_low (Excl d) f = ap (infinite_product true) f
exact_low (Incl d) f = ap (infinite_product true) f
exact_low PosInf f = refl

exact_high : (e : End) → is_negative_end e ≡ true → exact_product NegInf e ≡ PosInf
exact_high NegInf f = refl
exact_high (Excl d) f = ap (infinite_product true) f
exact_high (Incl d) f = ap (infinite_product true) f
exact_high PosInf f = cc

low_infinite : (e : End) → NotZero e → is_negative_end e ≡ false → end_product NegInf e ≡ NegInf
low_infinite e n f = product_exact NegInf e (record { closed = refl; open_end = refl }) n ∙ exact_low e f

high_infinite : (e : End) → NotZero e → is_negative_end e ≡ true → end_product NegInf e ≡ PosInf
high_infinite e n f = product_exact NegInf e (record { closed = refl; open_end = refl }) n ∙ exact_high e f

-- the product of the infinite lower end and an upper end that is not negative covers each end from 0 on
low_product : (v : End) → (NotZero v → is_negative_end v ≡ false) → lower_covers (end_product NegInf v) (Excl origin) ≡ true
low_product v s =
    elim (zero_cases v) [
      | inl t ↦ ap (λ (e : End). lower_covers e (Excl origin)) (product_closed_right NegInf v t) ∙ most_refl origin
      | inr o ↦ elim o [
        | inl h ↦ ap (λ (e : End). lower_covers e (Excl origin)) (product_open_right NegInf v refl h.0 h.1) ∙ most_refl origin
        | inr n ↦ ap (λ (e : End). lower_covers e (Excl origin)) (low_infinite v n (s n))
      ]
    ]

low_at_open_zero : (u k v y : End) → Inside k v y → is_open_zero y ≡ true → SomeCovers NegInf u k v (Excl origin)
low_at_open_zero u k v NegInf i h = cc
low_at_open_zero u k v (Excl b) i h = inr (inl (low_product v (upper_of_open_zero v b (from_test b h) i.upper)))
low_at_open_zero u k v (Incl b) i h = cc
low_at_open_zero u k v PosInf i h = cc

low_covered : (u k v y : End) → Inside k v y → is_closed_zero y ≡ false → SomeCovers NegInf u k v (end_product NegInf y)
low_covered u k v y i cy =
    elim (cases_Bool (is_open_zero y)) [
      | inl t ↦ subst (SomeCovers NegInf u k v) (sym (product_open_right NegInf y refl cy t)) (low_at_open_zero u k v y i t)
      | inr f ↦
          let n : NotZero y = record { closed = cy; open_end = f } in
          elim (cases_Bool (is_negative_end y)) [
            | inl t ↦ subst (SomeCovers NegInf u k v) (sym (high_infinite y n t)) (inl (covers_infinite (end_product NegInf k)))
            | inr g ↦
                let o = upper_of_positive v y n g i.upper in
                inr (inl (ap (λ (e : End). lower_covers e (end_product NegInf y)) (low_infinite v o.0 o.1)))
          ]
    ]

-- ---- mirrored

inside_mirrored : (k v y : End) → Inside k v y → Inside (mirrored_end v) (mirrored_end k) (mirrored_end y)
inside_mirrored k v y i = record { lower = covers_mirrored v y ∙ i.upper; upper = upper_covers_mirrored k y ∙ i.lower }

-- the four products of mirrored ends are the four products
some_mirrored : (l u k v e : End) → SomeCovers (mirrored_end u) (mirrored_end l) (mirrored_end v) (mirrored_end k) e → SomeCovers l u k v e
some_mirrored l u k v e s =
    elim s [
      | inl h ↦ inr (inr (inr (turn u v h)))
      | inr t ↦ elim t [
        | inl h ↦ inr (inr (inl (turn u k h)))
        | inr w ↦ elim w [
          | inl h ↦ inr (inl (turn l v h))
          | inr h ↦ inl (turn l k h)
        ]
      ]
    ]
  where
    turn : (x y : End) → lower_covers (end_product (mirrored_end x) (mirrored_end y)) e ≡ true → lower_covers (end_product x y) e ≡ true
    turn x y h = ap (λ (z : End). lower_covers z e) (sym (product_both_mirrored x y)) ∙ h

some_swapped : (l u k v e : End) → SomeCovers k v l u e → SomeCovers l u k v e
some_swapped l u k v e s =
    elim s [
      | inl h ↦ inl (turn l k h)
      | inr t ↦ elim t [
        | inl h ↦ inr (inr (inl (turn u k h)))
        | inr w ↦ elim w [
          | inl h ↦ inr (inl (turn l v h))
          | inr h ↦ inr (inr (inr (turn u v h)))
        ]
      ]
    ]
  where
    turn : (x y : End) → lower_covers (end_product y x) e ≡ true → lower_covers (end_product x y) e ≡ true
    turn x y h = ap (λ (z : End). lower_covers z e) (end_product_comm x y) ∙ h

-- ---- each product of inner ends is covered

covers_low : (l : End) → lower_covers l NegInf ≡ true → l ≡ NegInf
covers_low NegInf h = refl
covers_low (Excl d) h = cc
covers_low (Incl d) h = cc
covers_low PosInf h = cc

infinite_first : (l u k v y : End) → lower_covers l NegInf ≡ true → Inside k v y → is_closed_zero y ≡ false → SomeCovers l u k v (end_product NegInf y)
infinite_first l u k v y h i cy = subst (λ (z : End). SomeCovers z u k v (end_product NegInf y)) (sym (covers_low l h)) (low_covered u k v y i cy)

infinite_last : (l u k v y : End) → upper_covers u PosInf ≡ true → Inside k v y → is_closed_zero y ≡ false → SomeCovers l u k v (end_product PosInf y)
infinite_last l u k v y h i cy =
    some_mirrored l u k v (end_product PosInf y)
    (subst (SomeCovers (mirrored_end u) (mirrored_end l) (mirrored_end v) (mirrored_end k)) (product_both_mirrored PosInf y)
    (infinite_first (mirrored_end u) (mirrored_end l) (mirrored_end v) (mirrored_end k) (mirrored_end y) (covers_mirrored u PosInf ∙ h) (inside_mirrored k v y i) (closed_zero_mirrored y ∙ cy)))

not_zero_covered : (l u k v x y : End) → Inside l u x → Inside k v y → is_closed_zero x ≡ false → is_closed_zero y ≡ false → SomeCovers l u k v (end_product x y)
not_zero_covered l u k v NegInf y i j cx cy = infinite_first l u k v y i.lower j cy
not_zero_covered l u k v (Excl a) NegInf i j cx cy = second_infinite
  where
    second_infinite : SomeCovers l u k v (end_product (Excl a) NegInf)
    second_infinite = subst (SomeCovers l u k v) (end_product_comm NegInf (Excl a)) (some_swapped l u k v (end_product NegInf (Excl a)) (infinite_first k v l u (Excl a) j.lower i cx))
not_zero_covered l u k v (Excl a) (Excl b) i j cx cy = open_product_covered l u k v (Excl a) (Excl b) a b (open_held l u a i) (open_held k v b j) cx cy refl
not_zero_covered l u k v (Excl a) (Incl b) i j cx cy = open_product_covered l u k v (Excl a) (Incl b) a b (open_held l u a i) (closed_held k v b j) cx cy refl
not_zero_covered l u k v (Excl a) PosInf i j cx cy =
    subst (SomeCovers l u k v) (end_product_comm PosInf (Excl a)) (some_swapped l u k v (end_product PosInf (Excl a)) (infinite_last k v l u (Excl a) j.upper i cx))
not_zero_covered l u k v (Incl a) NegInf i j cx cy =
    subst (SomeCovers l u k v) (end_product_comm NegInf (Incl a)) (some_swapped l u k v (end_product NegInf (Incl a)) (infinite_first k v l u (Incl a) j.lower i cx))
not_zero_covered l u k v (Incl a) (Excl b) i j cx cy = open_product_covered l u k v (Incl a) (Excl b) a b (closed_held l u a i) (open_held k v b j) cx cy refl
not_zero_covered l u k v (Incl a) (Incl b) i j cx cy =
    subst (SomeCovers l u k v) (sym (product_exact (Incl a) (Incl b) (record { closed = cx; open_end = refl }) (record { closed = cy; open_end = refl })))
    (closed_covered l u k v a b (covered_closed l a i.lower) (under_closed u a i.upper) (covered_closed k b j.lower) (under_closed v b j.upper))
not_zero_covered l u k v (Incl a) PosInf i j cx cy =
    subst (SomeCovers l u k v) (end_product_comm PosInf (Incl a)) (some_swapped l u k v (end_product PosInf (Incl a)) (infinite_last k v l u (Incl a) j.upper i cx))
not_zero_covered l u k v PosInf y i j cx cy = infinite_last l u k v y i.upper j cy

pub covered : (l u k v x y : End) (a b : Decimal) → is_above l a ≡ true → is_below u a ≡ true → is_above k b ≡ true → is_below v b ≡ true
    → Inside l u x → Inside k v y → SomeCovers l u k v (end_product x y)
covered l u k v x y a b hl hu hk hv i j =
    elim (cases_Bool (is_closed_zero x)) [
      | inl t ↦ subst (SomeCovers l u k v) (sym (product_closed_left x y t)) (closed_zero_covered l u k v x b i t hk hv)
      | inr f ↦ elim (cases_Bool (is_closed_zero y)) [
        | inl t ↦ subst (SomeCovers l u k v) (sym (product_closed_right x y t)) (some_swapped l u k v (Incl origin) (closed_zero_covered k v l u y a j t hl hu))
        | inr g ↦ not_zero_covered l u k v x y i j f g
      ]
    ]

-- ---- whole intervals

-- each end of an inhabited interval lies between the ends of one around it
upper_past_lower : (l u : End) → is_inhabited l u ≡ true → upper_covers u l ≡ true
upper_past_lower NegInf NegInf h = cc
upper_past_lower NegInf (Excl b) h = refl
upper_past_lower NegInf (Incl b) h = refl
upper_past_lower NegInf PosInf h = refl
upper_past_lower (Excl a) NegInf h = cc
upper_past_lower (Excl a) (Excl b) h = less_is_most a b h
upper_past_lower (Excl a) (Incl b) h = less_is_most a b h
upper_past_lower (Excl a) PosInf h = refl
upper_past_lower (Incl a) NegInf h = cc
upper_past_lower (Incl a) (Excl b) h = h
upper_past_lower (Incl a) (Incl b) h = h
upper_past_lower (Incl a) PosInf h = refl
upper_past_lower PosInf u h = cc

lower_past_upper : (l u : End) → is_inhabited l u ≡ true → lower_covers l u ≡ true
lower_past_upper NegInf u h = refl
lower_past_upper (Excl a) NegInf h = cc
lower_past_upper (Excl a) (Excl b) h = less_is_most a b h
lower_past_upper (Excl a) (Incl b) h = h
lower_past_upper (Excl a) PosInf h = refl
lower_past_upper (Incl a) NegInf h = cc
lower_past_upper (Incl a) (Excl b) h = less_is_most a b h
lower_past_upper (Incl a) (Incl b) h = h
lower_past_upper (Incl a) PosInf h = refl
lower_past_upper PosInf u h = cc

pub lower_inside : (i j : Interval) → is_within i j ≡ true → is_inhabited i.0 i.1 ≡ true → Inside j.0 j.1 i.0
lower_inside i j w h =
    let o = and_parts (lower_covers j.0 i.0) (upper_covers j.1 i.1) w in
    record { lower = o.0; upper = upper_covers_trans j.1 i.1 i.0 o.1 (upper_past_lower i.0 i.1 h) }

pub upper_inside : (i j : Interval) → is_within i j ≡ true → is_inhabited i.0 i.1 ≡ true → Inside j.0 j.1 i.1
upper_inside i j w h =
    let o = and_parts (lower_covers j.0 i.0) (upper_covers j.1 i.1) w in
    record { lower = lower_covers_trans j.0 i.0 i.1 o.0 (lower_past_upper i.0 i.1 h); upper = o.1 }

-- the least of four covers what one of them covers, and is covered by what covers each
least_covers : (a b c d e : End) → (lower_covers a e ≡ true) ⊎ ((lower_covers b e ≡ true) ⊎ ((lower_covers c e ≡ true) ⊎ (lower_covers d e ≡ true)))
    → lower_covers (lower_hull (lower_hull a b) (lower_hull c d)) e ≡ true
least_covers a b c d e s =
    elim s [
      | inl h ↦ lower_covers_trans (lower_hull (lower_hull a b) (lower_hull c d)) (lower_hull a b) e (lower_hull_first (lower_hull a b) (lower_hull c d)) (lower_covers_trans (lower_hull a b) a e (lower_hull_first a b) h)
      | inr t ↦ elim t [
        | inl h ↦ lower_covers_trans (lower_hull (lower_hull a b) (lower_hull c d)) (lower_hull a b) e (lower_hull_first (lower_hull a b) (lower_hull c d)) (lower_covers_trans (lower_hull a b) b e (lower_hull_second a b) h)
        | inr w ↦ elim w [
          | inl h ↦ lower_covers_trans (lower_hull (lower_hull a b) (lower_hull c d)) (lower_hull c d) e (lower_hull_second (lower_hull a b) (lower_hull c d)) (lower_covers_trans (lower_hull c d) c e (lower_hull_first c d) h)
          | inr h ↦ lower_covers_trans (lower_hull (lower_hull a b) (lower_hull c d)) (lower_hull c d) e (lower_hull_second (lower_hull a b) (lower_hull c d)) (lower_covers_trans (lower_hull c d) d e (lower_hull_second c d) h)
        ]
      ]
    ]

hull_covered : (e a b : End) → lower_covers e a ≡ true → lower_covers e b ≡ true → lower_covers e (lower_hull a b) ≡ true
hull_covered e a b h k = elim (cases_Bool (lower_covers a b)) [ inl t ↦ rw t h | inr f ↦ rw f k ]

Some : End → End → End → End → End → Type 0
Some a b c d e = (lower_covers a e ≡ true) ⊎ ((lower_covers b e ≡ true) ⊎ ((lower_covers c e ≡ true) ⊎ (lower_covers d e ≡ true)))

-- the least of four is as far out as the least of four that are each covered
four_wider : (a b c d w x y z : End) → Some a b c d w → Some a b c d x → Some a b c d y → Some a b c d z
    → lower_covers (lower_hull (lower_hull a b) (lower_hull c d)) (lower_hull (lower_hull w x) (lower_hull y z)) ≡ true
unfolding Some
four_wider a b c d w x y z hw hx hy hz =
    let e = lower_hull (lower_hull a b) (lower_hull c d) in
    hull_covered e (lower_hull w x) (lower_hull y z)
    (hull_covered e w x (least_covers a b c d w hw) (least_covers a b c d x hx))
    (hull_covered e y z (least_covers a b c d y hy) (least_covers a b c d z hz))

-- an inhabited interval in a wider one, with a member of both
record Nested (i m : Interval) : Type 0 where
  member : Decimal
  above : is_above m.0 member ≡ true
  below : is_below m.1 member ≡ true
  lower : Inside m.0 m.1 i.0
  upper : Inside m.0 m.1 i.1

nested : (i m : Interval) → is_within i m ≡ true → is_inhabited i.0 i.1 ≡ true → Nested i m
nested i m w h =
    let a = inhabited_has i h in
    let p = has_parts m a.0 (has_within i m a.0 w a.1) in
    record { member = a.0; above = p.0; below = p.1; lower = lower_inside i m w h; upper = upper_inside i m w h }

lower_of : (i j m n : Interval) → Nested i m → Nested j n → (x y : End) → Inside m.0 m.1 x → Inside n.0 n.1 y → SomeCovers m.0 m.1 n.0 n.1 (end_product x y)
lower_of i j m n a b x y g h = covered m.0 m.1 n.0 n.1 x y a.member b.member a.above a.below b.above b.below g h

least_level : (p q : ℕ) (i j : Interval) → HasPlaces p i.0 → HasPlaces p i.1 → HasPlaces q j.0 → HasPlaces q j.1 → EndLevel (p + q) (least_product i j)
least_level p q i j a b c d =
    lower_hull_level (p + q) (lower_hull (end_product i.0 j.0) (end_product i.0 j.1)) (lower_hull (end_product i.1 j.0) (end_product i.1 j.1))
    (lower_hull_level (p + q) (end_product i.0 j.0) (end_product i.0 j.1) (product_level p q i.0 j.0 a c) (product_level p q i.0 j.1 a d))
    (lower_hull_level (p + q) (end_product i.1 j.0) (end_product i.1 j.1) (product_level p q i.1 j.0 b c) (product_level p q i.1 j.1 b d))

greatest_level : (p q : ℕ) (i j : Interval) → HasPlaces p i.0 → HasPlaces p i.1 → HasPlaces q j.0 → HasPlaces q j.1 → EndLevel (p + q) (greatest_product i j)
greatest_level p q i j a b c d =
    upper_hull_level (p + q) (upper_hull (end_product i.0 j.0) (end_product i.0 j.1)) (upper_hull (end_product i.1 j.0) (end_product i.1 j.1))
    (upper_hull_level (p + q) (end_product i.0 j.0) (end_product i.0 j.1) (product_level p q i.0 j.0 a c) (product_level p q i.0 j.1 a d))
    (upper_hull_level (p + q) (end_product i.1 j.0) (end_product i.1 j.1) (product_level p q i.1 j.0 b c) (product_level p q i.1 j.1 b d))

pub least_wider : (i j m n : Interval) → is_within i m ≡ true → is_within j n ≡ true → is_inhabited i.0 i.1 ≡ true → is_inhabited j.0 j.1 ≡ true
    → lower_covers (least_product m n) (least_product i j) ≡ true
unfolding Some
least_wider i j m n w x hi hj =
    let a = nested i m w hi in
    let b = nested j n x hj in
    four_wider (end_product m.0 n.0) (end_product m.0 n.1) (end_product m.1 n.0) (end_product m.1 n.1)
    (end_product i.0 j.0) (end_product i.0 j.1) (end_product i.1 j.0) (end_product i.1 j.1)
    (lower_of i j m n a b i.0 j.0 a.lower b.lower) (lower_of i j m n a b i.0 j.1 a.lower b.upper)
    (lower_of i j m n a b i.1 j.0 a.upper b.lower) (lower_of i j m n a b i.1 j.1 a.upper b.upper)

-- the greatest, seen from the other side
greatest_mirrored : (i j : Interval) → mirrored_end (greatest_product i j) ≡
    lower_hull (lower_hull (mirrored_end (end_product i.0 j.0)) (mirrored_end (end_product i.0 j.1))) (lower_hull (mirrored_end (end_product i.1 j.0)) (mirrored_end (end_product i.1 j.1)))
greatest_mirrored i j =
    hull_mirrored (upper_hull (end_product i.0 j.0) (end_product i.0 j.1)) (upper_hull (end_product i.1 j.0) (end_product i.1 j.1))
    ∙ ap₂ lower_hull (hull_mirrored (end_product i.0 j.0) (end_product i.0 j.1)) (hull_mirrored (end_product i.1 j.0) (end_product i.1 j.1))

upper_of : (i j m n : Interval) → Nested i m → Nested j n → (x y : End) → Inside m.0 m.1 x → Inside n.0 n.1 y
    → Some (mirrored_end (end_product m.0 n.0)) (mirrored_end (end_product m.0 n.1)) (mirrored_end (end_product m.1 n.0)) (mirrored_end (end_product m.1 n.1)) (mirrored_end (end_product x y))
unfolding Some
upper_of i j m n a b x y g h =
    elim (covered (mirrored_end m.1) (mirrored_end m.0) n.0 n.1 (mirrored_end x) y (negative_of a.member) b.member
    (above_mirrored m.1 a.member ∙ a.below) (below_mirrored m.0 a.member ∙ a.above) b.above b.below (inside_mirrored m.0 m.1 x g) h) [
      | inl c ↦ inr (inr (inl (turn m.1 n.0 c)))
      | inr s ↦ elim s [
        | inl c ↦ inr (inr (inr (turn m.1 n.1 c)))
        | inr t ↦ elim t [
          | inl c ↦ inl (turn m.0 n.0 c)
          | inr c ↦ inr (inl (turn m.0 n.1 c))
        ]
      ]
    ]
  where
    turn : (e k : End) → lower_covers (end_product (mirrored_end e) k) (end_product (mirrored_end x) y) ≡ true → lower_covers (mirrored_end (end_product e k)) (mirrored_end (end_product x y)) ≡ true
    turn e k c = ap₂ lower_covers (sym (product_mirrored e k)) (sym (product_mirrored x y)) ∙ c

pub greatest_wider : (i j m n : Interval) → is_within i m ≡ true → is_within j n ≡ true → is_inhabited i.0 i.1 ≡ true → is_inhabited j.0 j.1 ≡ true
    → upper_covers (greatest_product m n) (greatest_product i j) ≡ true
greatest_wider i j m n w x hi hj =
    let a = nested i m w hi in
    let b = nested j n x hj in
    sym (covers_mirrored (greatest_product m n) (greatest_product i j))
    ∙ ap₂ lower_covers (greatest_mirrored m n) (greatest_mirrored i j)
    ∙ four_wider (mirrored_end (end_product m.0 n.0)) (mirrored_end (end_product m.0 n.1)) (mirrored_end (end_product m.1 n.0)) (mirrored_end (end_product m.1 n.1))
    (mirrored_end (end_product i.0 j.0)) (mirrored_end (end_product i.0 j.1)) (mirrored_end (end_product i.1 j.0)) (mirrored_end (end_product i.1 j.1))
    (upper_of i j m n a b i.0 j.0 a.lower b.lower) (upper_of i j m n a b i.0 j.1 a.lower b.upper)
    (upper_of i j m n a b i.1 j.0 a.upper b.lower) (upper_of i j m n a b i.1 j.1 a.upper b.upper)

pub product_wider : (p q : ℕ) (i j m n : Interval) → BothPlaces p i m → BothPlaces q j n → is_inhabited i.0 i.1 ≡ true → is_inhabited j.0 j.1 ≡ true → is_within i m ≡ true → is_within j n ≡ true
    → is_within (interval_product i j) (interval_product m n) ≡ true
product_wider p q i j m n f g hi hj w x =
    and_from (lower_covers (interval_product m n).0 (interval_product i j).0) (upper_covers (interval_product m n).1 (interval_product i j).1)
    (outward_lower_wider (p + q) (least_product m n) (least_product i j)
    (least_level p q m n f.outer_lower f.outer_upper g.outer_lower g.outer_upper) (least_level p q i j f.inner_lower f.inner_upper g.inner_lower g.inner_upper)
    (least_wider i j m n w x hi hj))
    (outward_upper_wider (p + q) (greatest_product m n) (greatest_product i j)
    (greatest_level p q m n f.outer_lower f.outer_upper g.outer_lower g.outer_upper) (greatest_level p q i j f.inner_lower f.inner_upper g.inner_lower g.inner_upper)
    (greatest_wider i j m n w x hi hj))
