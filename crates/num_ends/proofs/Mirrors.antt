-- Ends and their products, mirrored at 0.
use Rattle.std.proofs.Common.{◌≡◌, Bool, true, false, not, pos, neg_ℤ, int_lt, int_eq, true≢false, refl, sym, ap, ◌∙◌, ◌⊎◌, inl, inr}
use Rattle.std.proofs.lemmas.Bool.{cases_Bool}
use Rattle.num_ends.specs.Decimal.{Decimal}
use Rattle.num_ends.specs.declared.ends.End.{End}
use Rattle.num_ends.specs.declared.ends.End.TheVariants.{NegInf, Excl, Incl, PosInf}
use Rattle.num_ends.specs.Ends.{is_above, is_below, is_inhabited}
use Rattle.num_ends.specs.Arithmetic.{negative_of, mirrored_end, is_closed_zero, is_open_zero, is_negative_end, infinite_product, exact_product, end_product}
use Rattle.num_ends.proofs.Operations.{sign_of, positive_not_zero, positive_not_negative, negative_not_zero, zero_is_zero, less_negative, most_negative, negative_twice, negative_is_positive, positive_is_negative, product_comm, product_negative}
use Rattle.num_ends.proofs.EndProducts.{NotZero, product_closed_left, product_closed_right, product_open_left, product_open_right, product_exact}

pub above_mirrored : (u : End) (d : Decimal) → is_above (mirrored_end u) (negative_of d) ≡ is_below u d
above_mirrored NegInf d = refl
above_mirrored (Excl e) d = less_negative d e
above_mirrored (Incl e) d = most_negative d e
above_mirrored PosInf d = refl

pub below_mirrored : (l : End) (d : Decimal) → is_below (mirrored_end l) (negative_of d) ≡ is_above l d
below_mirrored NegInf d = refl
below_mirrored (Excl e) d = less_negative e d
below_mirrored (Incl e) d = most_negative e d
below_mirrored PosInf d = refl

pub end_twice : (e : End) → mirrored_end (mirrored_end e) ≡ e
end_twice NegInf = refl
end_twice (Excl d) = ap Excl (negative_twice d)
end_twice (Incl d) = ap Incl (negative_twice d)
end_twice PosInf = refl

pub mirrored_inhabited : (l u : End) → is_inhabited (mirrored_end u) (mirrored_end l) ≡ is_inhabited l u
mirrored_inhabited NegInf NegInf = refl
mirrored_inhabited NegInf (Excl b) = refl
mirrored_inhabited NegInf (Incl b) = refl
mirrored_inhabited NegInf PosInf = refl
mirrored_inhabited (Excl a) NegInf = refl
mirrored_inhabited (Excl a) (Excl b) = less_negative a b
mirrored_inhabited (Excl a) (Incl b) = less_negative a b
mirrored_inhabited (Excl a) PosInf = refl
mirrored_inhabited (Incl a) NegInf = refl
mirrored_inhabited (Incl a) (Excl b) = less_negative a b
mirrored_inhabited (Incl a) (Incl b) = most_negative a b
mirrored_inhabited (Incl a) PosInf = refl
mirrored_inhabited PosInf NegInf = refl
mirrored_inhabited PosInf (Excl b) = refl
mirrored_inhabited PosInf (Incl b) = refl
mirrored_inhabited PosInf PosInf = refl

-- ---- zeros and signs

number_zero : (d : Decimal) → int_eq (negative_of d).n (pos 0) ≡ int_eq d.n (pos 0)
number_zero d =
    elim (sign_of d) [
      | inl z ↦ zero_is_zero (negative_of d) (ap neg_ℤ z) ∙ sym (zero_is_zero d z)
      | inr s ↦ elim s [
        | inl p ↦ negative_not_zero (negative_of d) (positive_is_negative d p) ∙ sym (positive_not_zero d p)
        | inr n ↦ positive_not_zero (negative_of d) (negative_is_positive d n) ∙ sym (negative_not_zero d n)
      ]
    ]

pub closed_zero_mirrored : (e : End) → is_closed_zero (mirrored_end e) ≡ is_closed_zero e
closed_zero_mirrored NegInf = refl
closed_zero_mirrored (Excl d) = refl
closed_zero_mirrored (Incl d) = number_zero d
closed_zero_mirrored PosInf = refl

pub open_zero_mirrored : (e : End) → is_open_zero (mirrored_end e) ≡ is_open_zero e
open_zero_mirrored NegInf = refl
open_zero_mirrored (Excl d) = number_zero d
open_zero_mirrored (Incl d) = refl
open_zero_mirrored PosInf = refl

not_zero_mirrored : (e : End) → NotZero e → NotZero (mirrored_end e)
not_zero_mirrored e x = record { closed = closed_zero_mirrored e ∙ x.closed; open_end = open_zero_mirrored e ∙ x.open_end }

number_flips : (d : Decimal) → int_eq d.n (pos 0) ≡ false → int_lt (negative_of d).n (pos 0) ≡ not (int_lt d.n (pos 0))
number_flips d x =
    elim (sign_of d) [
      | inl z ↦ absurd (true≢false (sym (zero_is_zero d z) ∙ x))
      | inr s ↦ elim s [
        | inl p ↦ positive_is_negative d p ∙ ap not (sym (positive_not_negative d p))
        | inr n ↦ positive_not_negative (negative_of d) (negative_is_positive d n) ∙ ap not (sym n)
      ]
    ]

sign_flips : (e : End) → NotZero e → is_negative_end (mirrored_end e) ≡ not (is_negative_end e)
sign_flips NegInf x = refl
sign_flips (Excl d) x = number_flips d x.open_end
sign_flips (Incl d) x = number_flips d x.closed
sign_flips PosInf x = refl

-- ---- products

infinite_mirrored : (s t : Bool) → infinite_product (not s) t ≡ mirrored_end (infinite_product s t)
infinite_mirrored true true = refl
infinite_mirrored true false = refl
infinite_mirrored false true = refl
infinite_mirrored false false = refl

infinite_comm : (s t : Bool) → infinite_product s t ≡ infinite_product t s
infinite_comm true true = refl
infinite_comm true false = refl
infinite_comm false true = refl
infinite_comm false false = refl

-- where one of the two is infinite
infinite_exact : (a b : End) → NotZero a → infinite_product (is_negative_end (mirrored_end a)) (is_negative_end b) ≡ mirrored_end (infinite_product (is_negative_end a) (is_negative_end b))
infinite_exact a b x = ap (λ (s : Bool). infinite_product s (is_negative_end b)) (sign_flips a x) ∙ infinite_mirrored (is_negative_end a) (is_negative_end b)

exact_mirrored : (a b : End) → NotZero a → exact_product (mirrored_end a) b ≡ mirrored_end (exact_product a b)
exact_mirrored NegInf b x = infinite_exact NegInf b x
exact_mirrored (Excl a) NegInf x = infinite_exact (Excl a) NegInf x
exact_mirrored (Excl a) (Excl b) x = ap Excl (product_negative a b)
exact_mirrored (Excl a) (Incl b) x = ap Excl (product_negative a b)
exact_mirrored (Excl a) PosInf x = infinite_exact (Excl a) PosInf x
exact_mirrored (Incl a) NegInf x = infinite_exact (Incl a) NegInf x
exact_mirrored (Incl a) (Excl b) x = ap Excl (product_negative a b)
exact_mirrored (Incl a) (Incl b) x = ap Incl (product_negative a b)
exact_mirrored (Incl a) PosInf x = infinite_exact (Incl a) PosInf x
exact_mirrored PosInf b x = infinite_exact PosInf b x

exact_comm : (a b : End) → exact_product a b ≡ exact_product b a
exact_comm NegInf NegInf = refl
exact_comm NegInf (Excl b) = infinite_comm true (int_lt b.n (pos 0))
exact_comm NegInf (Incl b) = infinite_comm true (int_lt b.n (pos 0))
exact_comm NegInf PosInf = refl
exact_comm (Excl a) NegInf = infinite_comm (int_lt a.n (pos 0)) true
exact_comm (Excl a) (Excl b) = ap Excl (product_comm a b)
exact_comm (Excl a) (Incl b) = ap Excl (product_comm a b)
exact_comm (Excl a) PosInf = infinite_comm (int_lt a.n (pos 0)) false
exact_comm (Incl a) NegInf = infinite_comm (int_lt a.n (pos 0)) true
exact_comm (Incl a) (Excl b) = ap Excl (product_comm a b)
exact_comm (Incl a) (Incl b) = ap Incl (product_comm a b)
exact_comm (Incl a) PosInf = infinite_comm (int_lt a.n (pos 0)) false
exact_comm PosInf NegInf = refl
exact_comm PosInf (Excl b) = infinite_comm false (int_lt b.n (pos 0))
exact_comm PosInf (Incl b) = infinite_comm false (int_lt b.n (pos 0))
exact_comm PosInf PosInf = refl

-- an end is a closed 0, an open 0, or not 0
pub zero_cases : (e : End) → (is_closed_zero e ≡ true) ⊎ (((is_closed_zero e ≡ false) × (is_open_zero e ≡ true)) ⊎ NotZero e)
zero_cases e =
    elim (cases_Bool (is_closed_zero e)) [
      | inl t ↦ inl t
      | inr f ↦ elim (cases_Bool (is_open_zero e)) [
        | inl u ↦ inr (inl (f, u))
        | inr g ↦ inr (inr (record { closed = f; open_end = g }))
      ]
    ]

pub not_closed : (e : End) → ((is_closed_zero e ≡ false) × (is_open_zero e ≡ true)) ⊎ NotZero e → is_closed_zero e ≡ false
not_closed e (inl h) = h.0
not_closed e (inr x) = x.closed

pub product_mirrored : (a b : End) → end_product (mirrored_end a) b ≡ mirrored_end (end_product a b)
product_mirrored a b =
    elim (zero_cases a) [
      | inl t ↦ product_closed_left (mirrored_end a) b (closed_zero_mirrored a ∙ t) ∙ ap mirrored_end (sym (product_closed_left a b t))
      | inr x ↦ elim (zero_cases b) [
        | inl t ↦ product_closed_right (mirrored_end a) b t ∙ ap mirrored_end (sym (product_closed_right a b t))
        | inr y ↦
            let ca = not_closed a x in
            let cb = not_closed b y in
            let cm : is_closed_zero (mirrored_end a) ≡ false = closed_zero_mirrored a ∙ ca in
            elim x [
              | inl h ↦ product_open_left (mirrored_end a) b cm cb (open_zero_mirrored a ∙ h.1) ∙ ap mirrored_end (sym (product_open_left a b ca cb h.1))
              | inr nx ↦ elim y [
                | inl h ↦ product_open_right (mirrored_end a) b cm cb h.1 ∙ ap mirrored_end (sym (product_open_right a b ca cb h.1))
                | inr ny ↦ product_exact (mirrored_end a) b (not_zero_mirrored a nx) ny ∙ exact_mirrored a b nx ∙ ap mirrored_end (sym (product_exact a b nx ny))
              ]
            ]
      ]
    ]

pub end_product_comm : (a b : End) → end_product a b ≡ end_product b a
end_product_comm a b =
    elim (zero_cases a) [
      | inl t ↦ product_closed_left a b t ∙ sym (product_closed_right b a t)
      | inr x ↦ elim (zero_cases b) [
        | inl t ↦ product_closed_right a b t ∙ sym (product_closed_left b a t)
        | inr y ↦
            let ca = not_closed a x in
            let cb = not_closed b y in
            elim x [
              | inl h ↦ product_open_left a b ca cb h.1 ∙ sym (product_open_right b a cb ca h.1)
              | inr nx ↦ elim y [
                | inl h ↦ product_open_right a b ca cb h.1 ∙ sym (product_open_left b a cb ca h.1)
                | inr ny ↦ product_exact a b nx ny ∙ exact_comm a b ∙ sym (product_exact b a ny nx)
              ]
            ]
      ]
    ]

pub product_both_mirrored : (a b : End) → end_product (mirrored_end a) (mirrored_end b) ≡ end_product a b
product_both_mirrored a b =
    product_mirrored a (mirrored_end b)
    ∙ ap mirrored_end (end_product_comm a (mirrored_end b) ∙ product_mirrored b a)
    ∙ end_twice (end_product b a)
    ∙ end_product_comm b a
