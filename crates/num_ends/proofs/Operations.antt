-- Sums, negatives and products of decimals keep and turn the order.
use Rattle.std.proofs.Common.{◌≡◌, ℕ, zero, suc, ◌+◌, ◌-◌, ◌*◌, ◌^◌, ◌<◌, ◌≤◌, max, true, false, ℤ, pos, negsuc, ◌*ℤ◌, ◌+ℤ◌, neg_ℤ, int_lt, int_le, int_eq, sym, refl, ap, ap₂, ◌∙◌, arith, mul_comm, zero-mul, ◌⊎◌, inl, inr, add_comm}
use Rattle.std.proofs.lemmas.Int.{ints}
use Rattle.std.proofs.lemmas.Bool.{cases_lt}
use Rattle.std.proofs.Math.IntN.{*ℤ_comm, neg_ℤ-neg_ℤ}
use Rattle.std.proofs.Math.Nat.{one-le-pow}
use borrow.Author.Differences.{up, down, same_in, true_is_lt, false_is_lt, true_is_le, false_is_le}
use Rattle.num_ends.specs.Decimal.{Decimal, number_at, is_less, is_at_most, sum_of, product_of}
use Rattle.num_ends.specs.Arithmetic.{negative_of}
use Rattle.num_ends.proofs.DecimalOrder.{up_scaled, scaled_lt, scaled_le, scaled_twice, aligned_again, less_at, most_at}

-- ---- sums

parts_sum : (x y : ℤ) → up (x +ℤ y) + (down x + down y) ≡ down (x +ℤ y) + (up x + up y)
parts_sum x y = omega (arith, ints)

pub scaled_sum : (x y : ℤ) (k : ℕ) → (x +ℤ y) *ℤ pos k ≡ x *ℤ pos k +ℤ y *ℤ pos k
scaled_sum x y k =
    same_in ((x +ℤ y) *ℤ pos k) (x *ℤ pos k +ℤ y *ℤ pos k)
    (omega (arith, up_scaled (x +ℤ y) k, up_scaled x k, up_scaled y k, ap (λ (n : ℕ). n * k) (parts_sum x y), parts_sum (x *ℤ pos k) (y *ℤ pos k)))

pub sum_at : (q : ℕ) (a b : Decimal) → a.p ≤ q → b.p ≤ q → number_at q (sum_of a b) ≡ number_at q a +ℤ number_at q b
sum_at q a b h k =
    let c = max a.p b.p in
    scaled_sum (number_at c a) (number_at c b) (10 ^ (q - c))
    ∙ sym (ap₂ (λ (x y : ℤ). x +ℤ y) (aligned_again c q a (omega arith) (omega arith)) (aligned_again c q b (omega arith) (omega arith)))

lt_le_sum : (x y a b : ℤ) → int_lt x a ≡ true → int_le y b ≡ true → int_lt (x +ℤ y) (a +ℤ b) ≡ true
lt_le_sum x y a b h k = sym (true_is_lt (x +ℤ y) (a +ℤ b) (omega (arith, ints)))

le_lt_sum : (x y a b : ℤ) → int_le x a ≡ true → int_lt y b ≡ true → int_lt (x +ℤ y) (a +ℤ b) ≡ true
le_lt_sum x y a b h k = sym (true_is_lt (x +ℤ y) (a +ℤ b) (omega (arith, ints)))

le_le_sum : (x y a b : ℤ) → int_le x a ≡ true → int_le y b ≡ true → int_le (x +ℤ y) (a +ℤ b) ≡ true
le_le_sum x y a b h k = sym (true_is_le (x +ℤ y) (a +ℤ b) (omega (arith, ints)))

pub sum_less_most : (x y a b : Decimal) → is_less x a ≡ true → is_at_most y b ≡ true → is_less (sum_of x y) (sum_of a b) ≡ true
sum_less_most x y a b h k =
    let q = max (max x.p y.p) (max a.p b.p) in
    less_at q (sum_of x y) (sum_of a b) (omega arith) (omega arith)
    ∙ ap₂ int_lt (sum_at q x y (omega arith) (omega arith)) (sum_at q a b (omega arith) (omega arith))
    ∙ lt_le_sum (number_at q x) (number_at q y) (number_at q a) (number_at q b)
    (sym (less_at q x a (omega arith) (omega arith)) ∙ h) (sym (most_at q y b (omega arith) (omega arith)) ∙ k)

pub sum_most_less : (x y a b : Decimal) → is_at_most x a ≡ true → is_less y b ≡ true → is_less (sum_of x y) (sum_of a b) ≡ true
sum_most_less x y a b h k =
    let q = max (max x.p y.p) (max a.p b.p) in
    less_at q (sum_of x y) (sum_of a b) (omega arith) (omega arith)
    ∙ ap₂ int_lt (sum_at q x y (omega arith) (omega arith)) (sum_at q a b (omega arith) (omega arith))
    ∙ le_lt_sum (number_at q x) (number_at q y) (number_at q a) (number_at q b)
    (sym (most_at q x a (omega arith) (omega arith)) ∙ h) (sym (less_at q y b (omega arith) (omega arith)) ∙ k)

pub sum_most : (x y a b : Decimal) → is_at_most x a ≡ true → is_at_most y b ≡ true → is_at_most (sum_of x y) (sum_of a b) ≡ true
sum_most x y a b h k =
    let q = max (max x.p y.p) (max a.p b.p) in
    most_at q (sum_of x y) (sum_of a b) (omega arith) (omega arith)
    ∙ ap₂ int_le (sum_at q x y (omega arith) (omega arith)) (sum_at q a b (omega arith) (omega arith))
    ∙ le_le_sum (number_at q x) (number_at q y) (number_at q a) (number_at q b)
    (sym (most_at q x a (omega arith) (omega arith)) ∙ h) (sym (most_at q y b (omega arith) (omega arith)) ∙ k)

-- ---- negatives

pub neg_scaled : (x : ℤ) (k : ℕ) → neg_ℤ x *ℤ pos k ≡ neg_ℤ (x *ℤ pos k)
neg_scaled (pos zero) k = rw (zero-mul k) refl
neg_scaled (pos (suc a)) k = refl
neg_scaled (negsuc a) k = sym (neg_ℤ-neg_ℤ (pos (suc a * k)))

pub neg_lt : (x y : ℤ) → int_lt (neg_ℤ y) (neg_ℤ x) ≡ int_lt x y
neg_lt x y =
    elim (cases_lt (up x + down y) (up y + down x)) [
      | inl h ↦ sym (true_is_lt (neg_ℤ y) (neg_ℤ x) (omega (arith, ints))) ∙ true_is_lt x y h
      | inr h ↦ sym (false_is_lt (neg_ℤ y) (neg_ℤ x) (omega (arith, ints))) ∙ false_is_lt x y h
    ]

pub neg_le : (x y : ℤ) → int_le (neg_ℤ y) (neg_ℤ x) ≡ int_le x y
neg_le x y =
    elim (cases_lt (up y + down x) (up x + down y)) [
      | inl h ↦ sym (false_is_le (neg_ℤ y) (neg_ℤ x) (omega (arith, ints))) ∙ false_is_le x y h
      | inr h ↦ sym (true_is_le (neg_ℤ y) (neg_ℤ x) (omega (arith, ints))) ∙ true_is_le x y h
    ]

pub less_negative : (a b : Decimal) → is_less (negative_of b) (negative_of a) ≡ is_less a b
less_negative a b =
    let q = max a.p b.p in
    less_at q (negative_of b) (negative_of a) (omega arith) (omega arith)
    ∙ ap₂ int_lt (neg_scaled b.n (10 ^ (q - b.p))) (neg_scaled a.n (10 ^ (q - a.p)))
    ∙ neg_lt (number_at q a) (number_at q b)

pub most_negative : (a b : Decimal) → is_at_most (negative_of b) (negative_of a) ≡ is_at_most a b
most_negative a b =
    let q = max a.p b.p in
    most_at q (negative_of b) (negative_of a) (omega arith) (omega arith)
    ∙ ap₂ int_le (neg_scaled b.n (10 ^ (q - b.p))) (neg_scaled a.n (10 ^ (q - a.p)))
    ∙ neg_le (number_at q a) (number_at q b)

pub negative_twice : (a : Decimal) → negative_of (negative_of a) ≡ a
negative_twice a = ap (λ (n : ℤ). record { n = n; p = a.p }) (neg_ℤ-neg_ℤ a.n)

pub neg_product : (x y : ℤ) → neg_ℤ x *ℤ y ≡ neg_ℤ (x *ℤ y)
neg_product x (pos b) = neg_scaled x b
neg_product (pos zero) (negsuc b) = rw (zero-mul (suc b)) refl
neg_product (pos (suc a)) (negsuc b) = sym (neg_ℤ-neg_ℤ (pos (suc a * suc b)))
neg_product (negsuc a) (negsuc b) = refl

pub product_comm : (a b : Decimal) → product_of a b ≡ product_of b a
product_comm a b = ap₂ (λ (n : ℤ) (p : ℕ). record { n = n; p = p }) (*ℤ_comm a.n b.n) (add_comm a.p b.p)

pub product_negative : (a b : Decimal) → product_of (negative_of a) b ≡ negative_of (product_of a b)
product_negative a b = ap (λ (n : ℤ). record { n = n; p = a.p + b.p }) (neg_product a.n b.n)

pub product_negatives : (a b : Decimal) → product_of (negative_of a) (negative_of b) ≡ product_of a b
product_negatives a b =
    product_negative a (negative_of b) ∙ ap negative_of (product_comm a (negative_of b) ∙ product_negative b a) ∙ negative_twice (product_of b a) ∙ product_comm b a

-- ---- signs

abbrev pub IsPositive : Decimal → Type 0
IsPositive d = int_lt (pos 0) d.n ≡ true

abbrev pub IsNegative : Decimal → Type 0
IsNegative d = int_lt d.n (pos 0) ≡ true

abbrev pub IsZero : Decimal → Type 0
IsZero d = d.n ≡ pos 0

sign_number : (z : ℤ) → (z ≡ pos 0) ⊎ ((int_lt (pos 0) z ≡ true) ⊎ (int_lt z (pos 0) ≡ true))
sign_number (pos zero) = inl refl
sign_number (pos (suc n)) = inr (inl (sym (true_is_lt (pos 0) (pos (suc n)) (omega arith))))
sign_number (negsuc n) = inr (inr refl)

pub sign_of : (d : Decimal) → IsZero d ⊎ (IsPositive d ⊎ IsNegative d)
sign_of d = sign_number d.n

pub positive_not_zero : (d : Decimal) → IsPositive d → int_eq d.n (pos 0) ≡ false
positive_not_zero d h = rw (sym (false_is_lt d.n (pos 0) (omega (arith, ints))), h) refl

pub positive_not_negative : (d : Decimal) → IsPositive d → int_lt d.n (pos 0) ≡ false
positive_not_negative d h = sym (false_is_lt d.n (pos 0) (omega (arith, ints)))

pub negative_not_zero : (d : Decimal) → IsNegative d → int_eq d.n (pos 0) ≡ false
negative_not_zero d h = rw h refl

pub zero_is_zero : (d : Decimal) → IsZero d → int_eq d.n (pos 0) ≡ true
zero_is_zero d h = rw h refl

-- ---- products

positive_size : (z : ℤ) → int_lt (pos 0) z ≡ true → (k : ℕ) × (z ≡ pos k) × (0 < k)
positive_size (pos k) h = (k, refl, omega (arith, ints))
positive_size (negsuc k) h = cc

product_at : (q : ℕ) (a b : Decimal) (k : ℕ) → a.p ≤ q → b.n ≡ pos k → number_at (q + b.p) (product_of a b) ≡ number_at q a *ℤ pos k
product_at q a b k h e =
    let places : q + b.p - (a.p + b.p) ≡ q - a.p = omega arith in
    ap₂ (λ (z : ℤ) (i : ℕ). (a.n *ℤ z) *ℤ pos (10 ^ i)) e places
    ∙ scaled_twice a.n k (10 ^ (q - a.p))
    ∙ ap (λ (m : ℕ). a.n *ℤ pos m) (mul_comm k (10 ^ (q - a.p)))
    ∙ sym (scaled_twice a.n (10 ^ (q - a.p)) k)

pub times_less : (x a b : Decimal) → IsPositive b → is_less x a ≡ true → is_less (product_of x b) (product_of a b) ≡ true
times_less x a b pb h =
    let q = max x.p a.p in
    let s = positive_size b.n pb in
    less_at (q + b.p) (product_of x b) (product_of a b) (omega arith) (omega arith)
    ∙ ap₂ int_lt (product_at q x b s.0 (omega arith) s.1) (product_at q a b s.0 (omega arith) s.1)
    ∙ scaled_lt (number_at q x) (number_at q a) s.0 s.2 ∙ h

pub times_most : (x a b : Decimal) → IsPositive b → is_at_most x a ≡ true → is_at_most (product_of x b) (product_of a b) ≡ true
times_most x a b pb h =
    let q = max x.p a.p in
    let s = positive_size b.n pb in
    most_at (q + b.p) (product_of x b) (product_of a b) (omega arith) (omega arith)
    ∙ ap₂ int_le (product_at q x b s.0 (omega arith) s.1) (product_at q a b s.0 (omega arith) s.1)
    ∙ scaled_le (number_at q x) (number_at q a) s.0 s.2 ∙ h

pub positive_times_less : (x y b : Decimal) → IsPositive x → is_less y b ≡ true → is_less (product_of x y) (product_of x b) ≡ true
positive_times_less x y b px h = ap₂ is_less (product_comm x y) (product_comm x b) ∙ times_less y b x px h

pub positive_times_most : (x y b : Decimal) → IsPositive x → is_at_most y b ≡ true → is_at_most (product_of x y) (product_of x b) ≡ true
positive_times_most x y b px h = ap₂ is_at_most (product_comm x y) (product_comm x b) ∙ times_most y b x px h

pub negative_is_positive : (x : Decimal) → IsNegative x → IsPositive (negative_of x)
negative_is_positive x h = neg_lt x.n (pos 0) ∙ h

pub positive_is_negative : (x : Decimal) → IsPositive x → IsNegative (negative_of x)
positive_is_negative x h = neg_lt (pos 0) x.n ∙ h

pub negative_times_less : (x y b : Decimal) → IsNegative x → is_less b y ≡ true → is_less (product_of x y) (product_of x b) ≡ true
negative_times_less x y b nx h =
    sym (ap₂ is_less (product_negatives x y) (product_negatives x b))
    ∙ positive_times_less (negative_of x) (negative_of y) (negative_of b) (negative_is_positive x nx) (less_negative b y ∙ h)

pub negative_times_most : (x y b : Decimal) → IsNegative x → is_at_most b y ≡ true → is_at_most (product_of x y) (product_of x b) ≡ true
negative_times_most x y b nx h =
    sym (ap₂ is_at_most (product_negatives x y) (product_negatives x b))
    ∙ positive_times_most (negative_of x) (negative_of y) (negative_of b) (negative_is_positive x nx) (most_negative b y ∙ h)

product_number : (a b : Decimal) (k : ℕ) → b.n ≡ pos k → a.n *ℤ b.n ≡ a.n *ℤ pos k
product_number a b k e = ap (λ (z : ℤ). a.n *ℤ z) e

pub product_positive : (a b : Decimal) → IsPositive a → IsPositive b → IsPositive (product_of a b)
product_positive a b pa pb =
    let s = positive_size b.n pb in
    ap₂ int_lt (ap pos (sym (zero-mul s.0))) (product_number a b s.0 s.1) ∙ scaled_lt (pos 0) a.n s.0 s.2 ∙ pa

pub product_not_negative : (a b : Decimal) → int_le (pos 0) a.n ≡ true → IsPositive b → int_le (pos 0) (product_of a b).n ≡ true
product_not_negative a b ha pb =
    let s = positive_size b.n pb in
    ap₂ int_le (ap pos (sym (zero-mul s.0))) (product_number a b s.0 s.1) ∙ scaled_le (pos 0) a.n s.0 s.2 ∙ ha

pub product_negative_positive : (a b : Decimal) → IsNegative a → IsPositive b → IsNegative (product_of a b)
product_negative_positive a b na pb =
    let s = positive_size b.n pb in
    ap₂ int_lt (product_number a b s.0 s.1) (ap pos (sym (zero-mul s.0))) ∙ scaled_lt a.n (pos 0) s.0 s.2 ∙ na

-- ---- signs and the order

at_zero : (z : Decimal) → IsZero z → (q : ℕ) → number_at q z ≡ pos 0
at_zero z e q = ap (λ (n : ℤ). n *ℤ pos (10 ^ (q - z.p))) e ∙ ap pos (zero-mul (10 ^ (q - z.p)))

number_sign : (d : Decimal) (q : ℕ) → int_lt (pos 0) (number_at q d) ≡ int_lt (pos 0) d.n
number_sign d q = ap (λ (z : ℤ). int_lt z (number_at q d)) (ap pos (sym (zero-mul (10 ^ (q - d.p))))) ∙ scaled_lt (pos 0) d.n (10 ^ (q - d.p)) (one-le-pow (q - d.p) 10 (omega arith))

pub number_sign_back : (d : Decimal) (q : ℕ) → int_lt (number_at q d) (pos 0) ≡ int_lt d.n (pos 0)
number_sign_back d q = ap (λ (z : ℤ). int_lt (number_at q d) z) (ap pos (sym (zero-mul (10 ^ (q - d.p))))) ∙ scaled_lt d.n (pos 0) (10 ^ (q - d.p)) (one-le-pow (q - d.p) 10 (omega arith))

number_sign_most : (d : Decimal) (q : ℕ) → int_le (pos 0) (number_at q d) ≡ int_le (pos 0) d.n
number_sign_most d q = ap (λ (z : ℤ). int_le z (number_at q d)) (ap pos (sym (zero-mul (10 ^ (q - d.p))))) ∙ scaled_le (pos 0) d.n (10 ^ (q - d.p)) (one-le-pow (q - d.p) 10 (omega arith))

number_sign_most_back : (d : Decimal) (q : ℕ) → int_le (number_at q d) (pos 0) ≡ int_le d.n (pos 0)
number_sign_most_back d q = ap (λ (z : ℤ). int_le (number_at q d) z) (ap pos (sym (zero-mul (10 ^ (q - d.p))))) ∙ scaled_le d.n (pos 0) (10 ^ (q - d.p)) (one-le-pow (q - d.p) 10 (omega arith))

-- a decimal against one that is 0 is told by its number
pub zero_less : (z d : Decimal) → IsZero z → is_less z d ≡ int_lt (pos 0) d.n
zero_less z d e = ap (λ (x : ℤ). int_lt x (number_at (max z.p d.p) d)) (at_zero z e (max z.p d.p)) ∙ number_sign d (max z.p d.p)

pub less_zero : (d z : Decimal) → IsZero z → is_less d z ≡ int_lt d.n (pos 0)
less_zero d z e = ap (λ (x : ℤ). int_lt (number_at (max d.p z.p) d) x) (at_zero z e (max d.p z.p)) ∙ number_sign_back d (max d.p z.p)

pub zero_at_most : (z d : Decimal) → IsZero z → is_at_most z d ≡ int_le (pos 0) d.n
zero_at_most z d e = ap (λ (x : ℤ). int_le x (number_at (max z.p d.p) d)) (at_zero z e (max z.p d.p)) ∙ number_sign_most d (max z.p d.p)

pub at_most_zero : (d z : Decimal) → IsZero z → is_at_most d z ≡ int_le d.n (pos 0)
at_most_zero d z e = ap (λ (x : ℤ). int_le (number_at (max d.p z.p) d) x) (at_zero z e (max d.p z.p)) ∙ number_sign_most_back d (max d.p z.p)
