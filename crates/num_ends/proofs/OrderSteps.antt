-- The steps of the order's code: whole parts first, then fractions, and the signs outside.
use Rattle.std.proofs.Common.{◌≡◌, ℕ, zero, suc, ◌+◌, ◌-◌, ◌*◌, ◌/◌, ◌%◌, ◌^◌, ◌<◌, ◌≤◌, max, Bool, cond, ℤ, pos, negsuc, ◌*ℤ◌, neg_ℤ, unsigned_abs, int_lt, sym, refl, ap, ap₂, ◌∙◌, arith, inl, inr, nat_cmp, int_cmp, Less, Equal, Greater, div-add-mod', mul-lt-mul_of_pos_right, mul-le-mul_right, mul-pos, zero-lt-suc, zero-le, le-ltb, Ordering}
use Rattle.std.specs.Ordering.{ordering_then}
use Rattle.std.proofs.lemmas.Nat.{pow-add, mod_below}
use Rattle.std.proofs.lemmas.Bool.{cases_order, cases_eq}
use Rattle.std.proofs.lemmas.Bool.Decides.{nat_tests}
use Rattle.std.proofs.Math.Nat.{one-le-pow}
use Rattle.num_ends.specs.Decimal.{Decimal, number_at, order_of}
use Rattle.num_ends.proofs.DecimalOrder.{scaled_lt, scaled_twice, no_place_more}

cmp_less : (x y : ℕ) → x < y → nat_cmp x y ≡ Less
cmp_less x y h = grind (arith, nat_tests)

cmp_more : (x y : ℕ) → y < x → nat_cmp x y ≡ Greater
cmp_more x y h = grind (arith, nat_tests)

cmp_same : (x y : ℕ) → x ≡ y → nat_cmp x y ≡ Equal
cmp_same x y h = grind (arith, nat_tests)

unequal_stands : (x y : ℕ) (o : Ordering) → (x ≡ y → ⊥) → ordering_then (nat_cmp x y) o ≡ nat_cmp x y
unequal_stands x y o n =
    elim (cases_order x y) [
      | inl e ↦ absurd (n e)
      | inr c ↦ elim c [
        | inl h ↦ rw (cmp_less x y h) refl
        | inr h ↦ rw (cmp_more x y h) refl
      ]
    ]

cmp_scaled : (x y k : ℕ) → 0 < k → nat_cmp (x * k) (y * k) ≡ nat_cmp x y
cmp_scaled x y k p =
    elim (cases_order x y) [
      | inl e ↦ cmp_same (x * k) (y * k) (ap (λ (n : ℕ). n * k) e) ∙ sym (cmp_same x y e)
      | inr o ↦ elim o [
        | inl h ↦ cmp_less (x * k) (y * k) (mul-lt-mul_of_pos_right h p) ∙ sym (cmp_less x y h)
        | inr h ↦ cmp_more (x * k) (y * k) (mul-lt-mul_of_pos_right h p) ∙ sym (cmp_more x y h)
      ]
    ]

cmp_shifted : (x y z : ℕ) → nat_cmp (z + x) (z + y) ≡ nat_cmp x y
cmp_shifted x y z =
    elim (cases_order x y) [
      | inl e ↦ cmp_same (z + x) (z + y) (omega arith) ∙ sym (cmp_same x y e)
      | inr o ↦ elim o [
        | inl h ↦ cmp_less (z + x) (z + y) (omega arith) ∙ sym (cmp_less x y h)
        | inr h ↦ cmp_more (z + x) (z + y) (omega arith) ∙ sym (cmp_more x y h)
      ]
    ]

-- a smaller whole part decides
below_by_whole : (a b u v : ℕ) → 0 < u → 0 < v → a / u < b / v → a * v < b * u
below_by_whole a b u v p q h =
    let small : a < (a / u + 1) * u = omega (arith, div-add-mod' a u, mod_below a u p) in
    let step : a * v < (a / u + 1) * u * v = mul-lt-mul_of_pos_right small q in
    let up : (a / u + 1) * (u * v) ≤ (b / v) * (u * v) = mul-le-mul_right (u * v) (omega arith) in
    let back : (b / v) * v * u ≤ b * u = mul-le-mul_right u (omega (arith, div-add-mod' b v)) in
    omega arith

pub wholes_decide : (a b u v : ℕ) → 0 < u → 0 < v → (a / u ≡ b / v → ⊥) → nat_cmp (a / u) (b / v) ≡ nat_cmp (a * v) (b * u)
wholes_decide a b u v p q n =
    elim (cases_order (a / u) (b / v)) [
      | inl e ↦ absurd (n e)
      | inr o ↦ elim o [
        | inl h ↦ cmp_less (a / u) (b / v) h ∙ sym (cmp_less (a * v) (b * u) (below_by_whole a b u v p q h))
        | inr h ↦ cmp_more (a / u) (b / v) h ∙ sym (cmp_more (a * v) (b * u) (below_by_whole b a v u q p h))
      ]
    ]

-- at equal whole parts the fractions decide, which w and z bring to one count of places
pub fractions_decide : (a b u v w z t : ℕ) → 0 < t → u * w ≡ t → v * z ≡ t → 0 < w * z → a / u ≡ b / v
    → nat_cmp (a % u * w) (b % v * z) ≡ nat_cmp (a * v) (b * u)
fractions_decide a b u v w z t p e f k h =
    let r = a % u in
    let s = b % v in
    let left : r * w * t ≡ r * v * (w * z) = ap (λ (n : ℕ). r * w * n) (sym f) ∙ omega arith in
    let right : s * z * t ≡ s * u * (w * z) = ap (λ (n : ℕ). s * z * n) (sym e) ∙ omega arith in
    let wholes : b / v * (u * v) ≡ a / u * (u * v) = ap (λ (n : ℕ). n * (u * v)) (sym h) in
    let a_is : a / u * (u * v) + r * v ≡ a * v = omega (arith, ap (λ (n : ℕ). n * v) (div-add-mod' a u)) in
    let b_is : a / u * (u * v) + s * u ≡ b * u = omega (arith, ap (λ (n : ℕ). n * u) (div-add-mod' b v)) in
    sym (cmp_scaled (r * w) (s * z) t p)
    ∙ ap₂ nat_cmp left right
    ∙ cmp_scaled (r * v) (s * u) (w * z) k
    ∙ sym (cmp_shifted (r * v) (s * u) (a / u * (u * v)))
    ∙ ap₂ nat_cmp a_is b_is

pub ten_positive : (p : ℕ) → 0 < 10 ^ p
ten_positive p = one-le-pow p 10 (omega arith)

whole_power : (p : ℕ) → p ≤ 18 → 10 ^ p * 10 ^ (18 - p) ≡ 10 ^ 18
whole_power p h =
    let e : p + (18 - p) ≡ 18 = omega arith in
    sym (pow-add 10 p (18 - p)) ∙ ap (λ (n : ℕ). 10 ^ n) e

pub fraction_below : (a p : ℕ) → p ≤ 18 → a % 10 ^ p * 10 ^ (18 - p) < 10 ^ 18
fraction_below a p h =
    omega (arith, whole_power p h, mul-lt-mul_of_pos_right (mod_below a (10 ^ p) (ten_positive p)) (ten_positive (18 - p)))

pub parts_decide : (a b p q : ℕ) → p ≤ 18 → q ≤ 18 → nat_cmp (a * 10 ^ q) (b * 10 ^ p)
    ≡ ordering_then (nat_cmp (a / 10 ^ p) (b / 10 ^ q)) (nat_cmp (a % 10 ^ p * 10 ^ (18 - p)) (b % 10 ^ q * 10 ^ (18 - q)))
parts_decide a b p q h k =
    let u = 10 ^ p in
    let v = 10 ^ q in
    elim (cases_eq (a / u) (b / v)) [
      | inl e ↦ sym (fractions_decide a b u v (10 ^ (18 - p)) (10 ^ (18 - q)) (10 ^ 18) (ten_positive 18) (whole_power p h) (whole_power q k)
          (mul-pos (ten_positive (18 - p)) (ten_positive (18 - q))) e)
          ∙ sym (ap (λ (o : Ordering). ordering_then o (nat_cmp (a % u * 10 ^ (18 - p)) (b % v * 10 ^ (18 - q)))) (cmp_same (a / u) (b / v) e))
      | inr n ↦ sym (wholes_decide a b u v (ten_positive p) (ten_positive q) n)
          ∙ sym (unequal_stands (a / u) (b / v) (nat_cmp (a % u * 10 ^ (18 - p)) (b % v * 10 ^ (18 - q))) n)
    ]

int_cmp_scaled : (x y : ℤ) (k : ℕ) → 0 < k → int_cmp (x *ℤ pos k) (y *ℤ pos k) ≡ int_cmp x y
int_cmp_scaled x y k p = ap₂ (λ (s t : Bool). cond s Less (cond t Greater Equal)) (scaled_lt x y k p) (scaled_lt y x k p)

rescaled : (x : ℤ) (i j k : ℕ) → i + j ≡ k → (x *ℤ pos (10 ^ i)) *ℤ pos (10 ^ j) ≡ x *ℤ pos (10 ^ k)
rescaled x i j k e = scaled_twice x (10 ^ i) (10 ^ j) ∙ ap (λ (n : ℕ). x *ℤ pos n) (sym (pow-add 10 i j) ∙ ap (λ (n : ℕ). 10 ^ n) e)

order_cross : (a b : Decimal) → order_of a b ≡ int_cmp (a.n *ℤ pos (10 ^ b.p)) (b.n *ℤ pos (10 ^ a.p))
order_cross a b =
    let c = max a.p b.p in
    let m = a.p + b.p - c in
    sym (int_cmp_scaled (number_at c a) (number_at c b) (10 ^ m) (ten_positive m))
    ∙ ap₂ int_cmp (rescaled a.n (c - a.p) m b.p (omega arith)) (rescaled b.n (c - b.p) m a.p (omega arith))

positive_cmp : (x y : ℕ) → int_cmp (pos x) (pos y) ≡ nat_cmp x y
positive_cmp x y = grind (arith, nat_tests)

negative_is : (m : ℕ) → 0 < m → neg_ℤ (pos m) ≡ negsuc (m - 1)
negative_is zero h = absurd (omega arith)
negative_is (suc m) h = ap negsuc (omega arith)

negative_cmp : (x y : ℕ) → 0 < x → 0 < y → int_cmp (negsuc (x - 1)) (negsuc (y - 1)) ≡ nat_cmp y x
negative_cmp x y p q = grind (arith, nat_tests)

-- the numbers times j and k, by their signs
signs_cmp : (x y : ℤ) (j k : ℕ) → 0 < j → 0 < k → int_cmp (x *ℤ pos j) (y *ℤ pos k) ≡
    cond (int_lt x (pos 0)) (cond (int_lt y (pos 0)) (nat_cmp (unsigned_abs y * k) (unsigned_abs x * j)) Less)
    (cond (int_lt y (pos 0)) Greater (nat_cmp (unsigned_abs x * j) (unsigned_abs y * k)))
signs_cmp (pos a) (pos b) j k p q = rw (le-ltb a 0 zero-le, le-ltb b 0 zero-le) (positive_cmp (a * j) (b * k))
signs_cmp (pos a) (negsuc b) j k p q = rw (negative_is (suc b * k) (mul-pos (zero-lt-suc b) q), le-ltb a 0 zero-le) refl
signs_cmp (negsuc a) (pos b) j k p q = rw (negative_is (suc a * j) (mul-pos (zero-lt-suc a) p), le-ltb b 0 zero-le) refl
signs_cmp (negsuc a) (negsuc b) j k p q =
    let m = mul-pos (zero-lt-suc a) p in
    let n = mul-pos (zero-lt-suc b) q in
    rw (negative_is (suc a * j) m, negative_is (suc b * k) n) (negative_cmp (suc a * j) (suc b * k) m n)

pub signs_decide : (a b : Decimal) → order_of a b ≡
    cond (int_lt a.n (pos 0)) (cond (int_lt b.n (pos 0)) (nat_cmp (unsigned_abs b.n * 10 ^ a.p) (unsigned_abs a.n * 10 ^ b.p)) Less)
    (cond (int_lt b.n (pos 0)) Greater (nat_cmp (unsigned_abs a.n * 10 ^ b.p) (unsigned_abs b.n * 10 ^ a.p)))
signs_decide a b = order_cross a b ∙ signs_cmp a.n b.n (10 ^ b.p) (10 ^ a.p) (ten_positive b.p) (ten_positive a.p)

pub same_places : (a b : Decimal) → a.p ≡ b.p → order_of a b ≡ int_cmp a.n b.n
same_places a b e =
    let c = max a.p b.p in
    ap₂ int_cmp (no_place_more c a (omega arith)) (no_place_more c b (omega arith))
