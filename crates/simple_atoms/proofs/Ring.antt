-- Decimals of equal values are one thing for sums and products, which form a ring.
use Rattle.std.proofs.Common.{◌≡◌, ℕ, Bool, cond, inl, inr, int_lt, int_le, suc, ◌+◌, ◌-◌, ◌^◌, ◌≤◌, max, ℤ, pos, negsuc, ◌*ℤ◌, ◌+ℤ◌, ◌-ℤ◌, neg_ℤ, refl, sym, ap, ap₂, ◌∙◌, arith, zero-mul, zero-add, mul_comm}
use Rattle.std.proofs.lemmas.Int.{ints}
use Rattle.std.proofs.Math.IntN.{*ℤ_comm, zero-*ℤ}
use Rattle.std.proofs.lemmas.Bool.{cases_lt}
use Rattle.std.specs.Ordering.{is_eq}
use Rattle.std.specs.declared.cmp.Ordering.TheVariants.{Less, Greater, Equal}
use borrow.Author.Differences.{up, down, same_in, true_is_lt, false_is_lt, true_is_le, false_is_le}
use Rattle.num_ends.specs.Decimal.{Decimal, number_at, origin, is_less, is_at_most, is_same_value, sum_of, difference_of, product_of, trimmed}
use Rattle.num_ends.specs.Arithmetic.{negative_of}
use Rattle.simple_atoms.specs.Forms.{one}
use Rattle.num_ends.proofs.DecimalOrder.{less_at, most_at, no_place_more, scaled_twice, times_one}
use Rattle.num_ends.proofs.Operations.{scaled_sum, sum_at, product_comm, product_negative, neg_product, neg_scaled, zero_less, zero_at_most, less_zero}
use Rattle.num_ends.proofs.Trimmed.{sum_of_trimmed, difference_of_trimmed, product_of_trimmed, trimmed_aligned, trimmed_twice}

-- of one value
abbrev pub Same : Decimal → Decimal → Type 0
Same a b = trimmed a ≡ trimmed b

pub same_trim : (a : Decimal) → Same (trimmed a) a
same_trim = trimmed_twice

pub same_sum : (a b c d : Decimal) → Same a c → Same b d → Same (sum_of a b) (sum_of c d)
same_sum a b c d e f = sym (sum_of_trimmed a b) ∙ ap₂ (λ (x y : Decimal). trimmed (sum_of x y)) e f ∙ sum_of_trimmed c d

pub same_product : (a b c d : Decimal) → Same a c → Same b d → Same (product_of a b) (product_of c d)
same_product a b c d e f = sym (product_of_trimmed a b) ∙ ap₂ (λ (x y : Decimal). trimmed (product_of x y)) e f ∙ product_of_trimmed c d

abbrev made : ℤ → ℕ → Decimal
made n p = record { n = n; p = p }

decimal : (m n : ℤ) (p q : ℕ) → m ≡ n → p ≡ q → made m p ≡ made n q
decimal m n p q e f = ap₂ made e f

-- ---- sums

pub sum_comm : (a b : Decimal) → sum_of a b ≡ sum_of b a
sum_comm a b =
    let places : max a.p b.p ≡ max b.p a.p = omega arith in
    decimal _ _ _ _
    (same_in _ _ (omega (arith, ints)) ∙ ap (λ (q : ℕ). number_at q b +ℤ number_at q a) places)
    places

sum_order : (x y z : ℤ) → (x +ℤ y) +ℤ z ≡ x +ℤ (y +ℤ z)
sum_order x y z = same_in _ _ (omega (arith, ints))

pub sum_assoc : (a b c : Decimal) → sum_of (sum_of a b) c ≡ sum_of a (sum_of b c)
sum_assoc a b c =
    let q = max (max a.p b.p) c.p in
    let places : max (max a.p b.p) c.p ≡ max a.p (max b.p c.p) = omega arith in
    decimal _ _ _ _
    (ap (λ (m : ℤ). m +ℤ number_at q c) (sum_at q a b (omega arith) (omega arith))
    ∙ sum_order (number_at q a) (number_at q b) (number_at q c)
    ∙ ap (λ (m : ℤ). number_at q a +ℤ m) (sym (sum_at q b c (omega arith) (omega arith)))
    ∙ ap (λ (r : ℕ). number_at r a +ℤ number_at r (sum_of b c)) places)
    places

zero_more : (x : ℤ) → pos 0 +ℤ x ≡ x
zero_more x = same_in _ _ (omega (arith, ints))

pub sum_zero : (a : Decimal) → sum_of origin a ≡ a
sum_zero a =
    let places : max 0 a.p ≡ a.p = omega arith in
    decimal _ _ _ _
    (ap₂ (λ (x y : ℤ). x +ℤ y) (ap pos (zero-mul (10 ^ (max 0 a.p - 0)))) (no_place_more (max 0 a.p) a (sym places)) ∙ zero_more a.n)
    places

-- four summands, the middle ones exchanged
pub sum_exchange : (a b c d : Decimal) → sum_of (sum_of a b) (sum_of c d) ≡ sum_of (sum_of a c) (sum_of b d)
sum_exchange a b c d =
    sum_assoc a b (sum_of c d)
    ∙ ap (sum_of a) (sym (sum_assoc b c d) ∙ ap (λ (x : Decimal). sum_of x d) (sum_comm b c) ∙ sum_assoc c b d)
    ∙ sym (sum_assoc a c (sum_of b d))

-- the first of three summands after the second
pub sum_swap : (a b c : Decimal) → sum_of a (sum_of b c) ≡ sum_of b (sum_of a c)
sum_swap a b c = sym (sum_assoc a b c) ∙ ap (λ (x : Decimal). sum_of x c) (sum_comm a b) ∙ sum_assoc b a c

pub difference_is_sum : (a b : Decimal) → difference_of a b ≡ sum_of a (negative_of b)
difference_is_sum a b =
    decimal _ _ _ _ (ap (λ (m : ℤ). number_at (max a.p b.p) a +ℤ m) (sym (neg_scaled b.n (10 ^ (max a.p b.p - b.p))))) refl

negative_sum : (x y : ℤ) → neg_ℤ (x +ℤ y) ≡ neg_ℤ x +ℤ neg_ℤ y
negative_sum x y = same_in _ _ (omega (arith, ints))

pub negative_of_sum : (a b : Decimal) → negative_of (sum_of a b) ≡ sum_of (negative_of a) (negative_of b)
negative_of_sum a b =
    let q = max a.p b.p in
    decimal _ _ _ _
    (negative_sum (number_at q a) (number_at q b)
    ∙ sym (ap₂ (λ (x y : ℤ). x +ℤ y) (neg_scaled a.n (10 ^ (q - a.p))) (neg_scaled b.n (10 ^ (q - b.p)))))
    refl

-- ---- products

times_pos : (y : ℤ) (a k : ℕ) → (y *ℤ pos a) *ℤ pos k ≡ (y *ℤ pos k) *ℤ pos a
times_pos y a k = scaled_twice y a k ∙ ap (λ (m : ℕ). y *ℤ pos m) (mul_comm a k) ∙ sym (scaled_twice y k a)

factors_turned : (x y : ℤ) (k : ℕ) → (x *ℤ y) *ℤ pos k ≡ x *ℤ (y *ℤ pos k)
factors_turned (pos a) y k =
    ap (λ (m : ℤ). m *ℤ pos k) (*ℤ_comm (pos a) y) ∙ times_pos y a k ∙ *ℤ_comm (y *ℤ pos k) (pos a)
factors_turned (negsuc a) y k =
    ap (λ (m : ℤ). m *ℤ pos k) (neg_product (pos (suc a)) y) ∙ neg_product (pos (suc a) *ℤ y) (pos k)
    ∙ ap neg_ℤ (ap (λ (m : ℤ). m *ℤ pos k) (*ℤ_comm (pos (suc a)) y) ∙ times_pos y (suc a) k ∙ *ℤ_comm (y *ℤ pos k) (pos (suc a)))
    ∙ sym (neg_product (pos (suc a)) (y *ℤ pos k))

times_negative : (x y : ℤ) → x *ℤ neg_ℤ y ≡ neg_ℤ (x *ℤ y)
times_negative x y = *ℤ_comm x (neg_ℤ y) ∙ neg_product y x ∙ ap neg_ℤ (*ℤ_comm y x)

factors_order : (x y z : ℤ) → (x *ℤ y) *ℤ z ≡ x *ℤ (y *ℤ z)
factors_order x y (pos k) = factors_turned x y k
factors_order x y (negsuc k) =
    times_negative (x *ℤ y) (pos (suc k)) ∙ ap neg_ℤ (factors_turned x y (suc k)) ∙ sym (times_negative x (y *ℤ pos (suc k)))
    ∙ ap (λ (m : ℤ). x *ℤ m) (sym (times_negative y (pos (suc k))))

times_sum_pos : (k : ℕ) (y z : ℤ) → pos k *ℤ (y +ℤ z) ≡ pos k *ℤ y +ℤ pos k *ℤ z
times_sum_pos k y z =
    *ℤ_comm (pos k) (y +ℤ z) ∙ scaled_sum y z k ∙ ap₂ (λ (m n : ℤ). m +ℤ n) (*ℤ_comm y (pos k)) (*ℤ_comm z (pos k))

times_sum : (x y z : ℤ) → x *ℤ (y +ℤ z) ≡ x *ℤ y +ℤ x *ℤ z
times_sum (pos k) y z = times_sum_pos k y z
times_sum (negsuc k) y z =
    neg_product (pos (suc k)) (y +ℤ z) ∙ ap neg_ℤ (times_sum_pos (suc k) y z) ∙ negative_sum (pos (suc k) *ℤ y) (pos (suc k) *ℤ z)
    ∙ sym (ap₂ (λ (m n : ℤ). m +ℤ n) (neg_product (pos (suc k)) y) (neg_product (pos (suc k)) z))

pub product_of_sum : (a b c : Decimal) → product_of a (sum_of b c) ≡ sum_of (product_of a b) (product_of a c)
product_of_sum a b c =
    let q = max b.p c.p in
    let r = max (a.p + b.p) (a.p + c.p) in
    let places : a.p + q ≡ r = omega arith in
    let first : q - b.p ≡ r - (a.p + b.p) = omega arith in
    let second : q - c.p ≡ r - (a.p + c.p) = omega arith in
    decimal _ _ _ _
    (times_sum a.n (number_at q b) (number_at q c)
    ∙ sym (ap₂ (λ (x y : ℤ). x +ℤ y) (factors_turned a.n b.n (10 ^ (q - b.p))) (factors_turned a.n c.n (10 ^ (q - c.p))))
    ∙ ap₂ (λ (j k : ℕ). (a.n *ℤ b.n) *ℤ pos (10 ^ j) +ℤ (a.n *ℤ c.n) *ℤ pos (10 ^ k)) first second)
    places

pub sum_of_products : (a b c : Decimal) → product_of (sum_of a b) c ≡ sum_of (product_of a c) (product_of b c)
sum_of_products a b c =
    product_comm (sum_of a b) c ∙ product_of_sum c a b ∙ ap₂ sum_of (product_comm c a) (product_comm c b)

pub product_order : (a b c : Decimal) → product_of (product_of a b) c ≡ product_of a (product_of b c)
product_order a b c =
    let places : (a.p + b.p) + c.p ≡ a.p + (b.p + c.p) = omega arith in
    decimal _ _ _ _ (factors_order a.n b.n c.n) places

pub product_one : (a : Decimal) → product_of one a ≡ a
product_one a = decimal _ _ _ _ (*ℤ_comm (pos 1) a.n ∙ times_one a.n) (zero-add a.p)

zero_product : (x : ℤ) → x ≡ pos 0 → (y : ℤ) → x *ℤ y ≡ pos 0
zero_product x e y = ap (λ (m : ℤ). m *ℤ y) e ∙ zero-*ℤ y

-- what is 0 has the value of the origin
pub zero_same : (a : Decimal) → a.n ≡ pos 0 → Same a origin
zero_same a e =
    let within : 0 ≤ a.p = omega arith in
    decimal_trimmed _ _ _ (e ∙ ap pos (sym (zero-mul (10 ^ (a.p - 0))))) ∙ trimmed_aligned a.p origin within
  where
    decimal_trimmed : (m n : ℤ) (p : ℕ) → m ≡ n → trimmed (made m p) ≡ trimmed (made n p)
    decimal_trimmed m n p f = ap (λ (k : ℤ). trimmed (made k p)) f

pub zero_times : (a b : Decimal) → a.n ≡ pos 0 → Same (product_of a b) origin
zero_times a b e = zero_same (product_of a b) (zero_product a.n e b.n)

pub product_of_negative : (a b : Decimal) → product_of (negative_of a) b ≡ negative_of (product_of a b)
product_of_negative = product_negative

negative_number : (x : ℤ) → negsuc 0 *ℤ x ≡ neg_ℤ x
negative_number x = neg_product (pos 1) x ∙ ap neg_ℤ (*ℤ_comm (pos 1) x ∙ times_one x)

negative_is_product : (a : Decimal) → product_of (record { n = negsuc 0; p = 0 }) a ≡ negative_of a
negative_is_product a = decimal _ _ _ _ (negative_number a.n) (zero-add a.p)

pub same_negative : (a b : Decimal) → Same a b → Same (negative_of a) (negative_of b)
same_negative a b e =
    ap trimmed (sym (negative_is_product a)) ∙ same_product (record { n = negsuc 0; p = 0 }) a (record { n = negsuc 0; p = 0 }) b refl e
    ∙ ap trimmed (negative_is_product b)

pub same_difference : (a b c d : Decimal) → Same a c → Same b d → Same (difference_of a b) (difference_of c d)
same_difference a b c d e f = sym (difference_of_trimmed a b) ∙ ap₂ (λ (x y : Decimal). trimmed (difference_of x y)) e f ∙ difference_of_trimmed c d

-- ---- the sign of a difference

less_positive : (x y : ℤ) → int_lt (pos 0) (x -ℤ y) ≡ int_lt y x
less_positive x y =
    elim (cases_lt (up y + down x) (up x + down y)) [
      | inl h ↦ sym (true_is_lt (pos 0) (x -ℤ y) (omega (arith, ints))) ∙ true_is_lt y x h
      | inr h ↦ sym (false_is_lt (pos 0) (x -ℤ y) (omega (arith, ints))) ∙ false_is_lt y x h
    ]

less_negative : (x y : ℤ) → int_lt (x -ℤ y) (pos 0) ≡ int_lt x y
less_negative x y =
    elim (cases_lt (up x + down y) (up y + down x)) [
      | inl h ↦ sym (true_is_lt (x -ℤ y) (pos 0) (omega (arith, ints))) ∙ true_is_lt x y h
      | inr h ↦ sym (false_is_lt (x -ℤ y) (pos 0) (omega (arith, ints))) ∙ false_is_lt x y h
    ]

most_positive : (x y : ℤ) → int_le (pos 0) (x -ℤ y) ≡ int_le y x
most_positive x y =
    elim (cases_lt (up x + down y) (up y + down x)) [
      | inl h ↦ sym (false_is_le (pos 0) (x -ℤ y) (omega (arith, ints))) ∙ false_is_le y x h
      | inr h ↦ sym (true_is_le (pos 0) (x -ℤ y) (omega (arith, ints))) ∙ true_is_le y x h
    ]

pub less_by_difference : (a b : Decimal) → is_less origin (difference_of a b) ≡ is_less b a
less_by_difference a b =
    let q = max a.p b.p in
    zero_less origin (difference_of a b) refl ∙ less_positive (number_at q a) (number_at q b)
    ∙ sym (less_at q b a (omega arith) (omega arith))

pub most_by_difference : (a b : Decimal) → is_at_most origin (difference_of a b) ≡ is_at_most b a
most_by_difference a b =
    let q = max a.p b.p in
    zero_at_most origin (difference_of a b) refl ∙ most_positive (number_at q a) (number_at q b)
    ∙ sym (most_at q b a (omega arith) (omega arith))

pub same_by_difference : (a b : Decimal) → is_same_value (difference_of a b) origin ≡ is_same_value a b
same_by_difference a b =
    let q = max a.p b.p in
    let d = difference_of a b in
    ap₂ (λ (below above : Bool). is_eq (cond below Less (cond above Greater Equal)))
    (less_zero d origin refl ∙ less_negative (number_at q a) (number_at q b))
    (sym (less_at (max q 0) origin d (omega arith) (omega arith)) ∙ zero_less origin d refl ∙ less_positive (number_at q a) (number_at q b))
