-- The order of decimals, brought back to that of whole numbers at any common count of places.
use Rattle.std.proofs.Common.{◌≡◌, ℕ, suc, ◌+◌, ◌-◌, ◌*◌, ◌^◌, ◌<◌, ◌≤◌, max, true, false, not, ℤ, pos, negsuc, ◌*ℤ◌, ◌+ℤ◌, ◌-ℤ◌, neg_ℤ, int_lt, int_le, int_eq, sym, refl, ap, ap₂, ◌∙◌, arith, mul-one, true≢false, inl, inr}
use Rattle.std.proofs.lemmas.Int.{ints}
use Rattle.std.proofs.lemmas.Nat.{pow-add}
use Rattle.std.proofs.lemmas.Bool.{cases_lt, cases_Bool, not-true, not-false}
use Rattle.std.proofs.Math.Nat.{mul-lt-mul_of_pos_right, one-le-pow, mul-le-mul_right}
use borrow.Author.Differences.{up, down, same_in, true_is_lt, false_is_lt, true_is_le, false_is_le}
use Rattle.num_ends.specs.Decimal.{Decimal, number_at, common_places, is_less, is_at_most, is_same_value}

-- ---- whole numbers times a positive one

pub up_scaled : (x : ℤ) (k : ℕ) → up (x *ℤ pos k) + down x * k ≡ down (x *ℤ pos k) + up x * k
up_scaled (pos a) k = omega arith
up_scaled (negsuc a) k = omega (arith, ints)

rises : (x y : ℤ) (k : ℕ) → 0 < k → up x + down y < up y + down x → up (x *ℤ pos k) + down (y *ℤ pos k) < up (y *ℤ pos k) + down (x *ℤ pos k)
rises x y k p h = omega (arith, up_scaled x k, up_scaled y k, mul-lt-mul_of_pos_right h p)

stays : (x y : ℤ) (k : ℕ) → up x + down y ≤ up y + down x → up (x *ℤ pos k) + down (y *ℤ pos k) ≤ up (y *ℤ pos k) + down (x *ℤ pos k)
stays x y k h = omega (arith, up_scaled x k, up_scaled y k, mul-le-mul_right k h)

pub scaled_lt : (x y : ℤ) (k : ℕ) → 0 < k → int_lt (x *ℤ pos k) (y *ℤ pos k) ≡ int_lt x y
scaled_lt x y k p =
    elim (cases_lt (up x + down y) (up y + down x)) [
      | inl h ↦ sym (true_is_lt (x *ℤ pos k) (y *ℤ pos k) (rises x y k p h)) ∙ true_is_lt x y h
      | inr h ↦ sym (false_is_lt (x *ℤ pos k) (y *ℤ pos k) (stays y x k h)) ∙ false_is_lt x y h
    ]

pub scaled_le : (x y : ℤ) (k : ℕ) → 0 < k → int_le (x *ℤ pos k) (y *ℤ pos k) ≡ int_le x y
scaled_le x y k p =
    elim (cases_lt (up y + down x) (up x + down y)) [
      | inl h ↦ sym (false_is_le (x *ℤ pos k) (y *ℤ pos k) (rises y x k p h)) ∙ false_is_le x y h
      | inr h ↦ sym (true_is_le (x *ℤ pos k) (y *ℤ pos k) (stays x y k h)) ∙ true_is_le x y h
    ]

pub scaled_twice : (x : ℤ) (j k : ℕ) → (x *ℤ pos j) *ℤ pos k ≡ x *ℤ pos (j * k)
scaled_twice x j k = same_in _ _ (omega (arith, up_scaled (x *ℤ pos j) k, ap (λ (n : ℕ). n * k) (up_scaled x j), up_scaled x (j * k)))

-- ---- a decimal at more places

pub aligned_again : (q r : ℕ) (d : Decimal) → d.p ≤ q → q ≤ r → number_at r d ≡ number_at q d *ℤ pos (10 ^ (r - q))
aligned_again q r d h k =
    let e : r - d.p ≡ (q - d.p) + (r - q) = omega arith in
    ap (λ (n : ℕ). d.n *ℤ pos (10 ^ n)) e ∙ ap (λ (n : ℕ). d.n *ℤ pos n) (pow-add 10 (q - d.p) (r - q)) ∙ sym (scaled_twice d.n (10 ^ (q - d.p)) (10 ^ (r - q)))

-- any count of places that serves both tells the same
pub less_at : (q : ℕ) (a b : Decimal) → a.p ≤ q → b.p ≤ q → is_less a b ≡ int_lt (number_at q a) (number_at q b)
less_at q a b h k =
    let c = max a.p b.p in
    sym (ap₂ int_lt (aligned_again c q a (omega arith) (omega arith)) (aligned_again c q b (omega arith) (omega arith))
    ∙ scaled_lt (number_at c a) (number_at c b) (10 ^ (q - c)) (one-le-pow (q - c) 10 (omega arith)))

pub most_at : (q : ℕ) (a b : Decimal) → a.p ≤ q → b.p ≤ q → is_at_most a b ≡ int_le (number_at q a) (number_at q b)
most_at q a b h k =
    let c = max a.p b.p in
    sym (ap₂ int_le (aligned_again c q a (omega arith) (omega arith)) (aligned_again c q b (omega arith) (omega arith))
    ∙ scaled_le (number_at c a) (number_at c b) (10 ^ (q - c)) (one-le-pow (q - c) 10 (omega arith)))

-- ---- the order of whole numbers, by its tests

lt_chain : (x y z : ℤ) → int_lt x y ≡ true → int_lt y z ≡ true → int_lt x z ≡ true
lt_chain x y z h k = sym (true_is_lt x z (omega (arith, ints)))

le_chain : (x y z : ℤ) → int_le x y ≡ true → int_le y z ≡ true → int_le x z ≡ true
le_chain x y z h k = sym (true_is_le x z (omega (arith, ints)))

lt_le_chain : (x y z : ℤ) → int_lt x y ≡ true → int_le y z ≡ true → int_lt x z ≡ true
lt_le_chain x y z h k = sym (true_is_lt x z (omega (arith, ints)))

le_lt_chain : (x y z : ℤ) → int_le x y ≡ true → int_lt y z ≡ true → int_lt x z ≡ true
le_lt_chain x y z h k = sym (true_is_lt x z (omega (arith, ints)))

le_not_lt : (x y : ℤ) → int_le x y ≡ not (int_lt y x)
le_not_lt x y =
    elim (cases_lt (up y + down x) (up x + down y)) [
      | inl h ↦ sym (false_is_le x y h) ∙ ap not (true_is_lt y x h)
      | inr h ↦ sym (true_is_le x y h) ∙ ap not (false_is_lt y x h)
    ]

both_le : (x y : ℤ) → int_le x y ≡ true → int_le y x ≡ true → x ≡ y
both_le x y h k = omega (arith, ints)

pub lt_le : (x y : ℤ) → int_lt x y ≡ true → int_le x y ≡ true
lt_le x y h = sym (true_is_le x y (omega (arith, ints)))

less_irrefl_at : (x : ℤ) → int_lt x x ≡ false
less_irrefl_at x = sym (false_is_lt x x (omega arith))

both_le_same : (x y : ℤ) → int_le x y ≡ true → int_le y x ≡ true → int_eq x y ≡ true
both_le_same x y h k =
    rw (sym (false_is_lt x y (omega (arith, ints))), sym (false_is_lt y x (omega (arith, ints)))) refl

same_lt : (x y : ℤ) → int_eq x y ≡ true → (int_lt x y ≡ false) × (int_lt y x ≡ false)
same_lt x y h =
    elim (cases_Bool (int_lt x y)) [
      | inl t ↦ absurd (true≢false (sym (rw t at h)))
      | inr f ↦ elim (cases_Bool (int_lt y x)) [
        | inl t ↦ absurd (true≢false (sym (rw (f, t) at h)))
        | inr g ↦ (f, g)
      ]
    ]

same_le : (x y : ℤ) → int_eq x y ≡ true → int_le x y ≡ true
same_le x y h = le_not_lt x y ∙ ap not (same_lt x y h).1

same_ge : (x y : ℤ) → int_eq x y ≡ true → int_le y x ≡ true
same_ge x y h = le_not_lt y x ∙ ap not (same_lt x y h).0

step_down : (x : ℤ) → int_lt (x -ℤ pos 1) x ≡ true
step_down x = sym (true_is_lt (x -ℤ pos 1) x (omega (arith, ints)))

step_up : (x : ℤ) → int_lt x (x +ℤ pos 1) ≡ true
step_up x = sym (true_is_lt x (x +ℤ pos 1) (omega (arith, ints)))

middle_above : (x y : ℤ) → int_lt x y ≡ true → int_lt (x *ℤ pos 10) ((x +ℤ y) *ℤ pos 5) ≡ true
middle_above x y h = sym (true_is_lt (x *ℤ pos 10) ((x +ℤ y) *ℤ pos 5) (omega (arith, ints)))

middle_below : (x y : ℤ) → int_lt x y ≡ true → int_lt ((x +ℤ y) *ℤ pos 5) (y *ℤ pos 10) ≡ true
middle_below x y h = sym (true_is_lt ((x +ℤ y) *ℤ pos 5) (y *ℤ pos 10) (omega (arith, ints)))

times_power : (x : ℤ) (k j : ℕ) → k ≡ j → x *ℤ pos (10 ^ k) ≡ x *ℤ pos (10 ^ j)
times_power x k j e = ap (λ (i : ℕ). x *ℤ pos (10 ^ i)) e

pub times_one : (x : ℤ) → x *ℤ pos 1 ≡ x
times_one (pos a) = ap pos (mul-one a)
times_one (negsuc a) = ap (λ (m : ℕ). neg_ℤ (pos m)) (mul-one (suc a))

pub no_place_more : (q : ℕ) (d : Decimal) → d.p ≡ q → number_at q d ≡ d.n
no_place_more q d e = times_power d.n (q - d.p) 0 (omega arith) ∙ times_one d.n

one_place_more : (q : ℕ) (d : Decimal) → d.p ≤ q → number_at (q + 1) d ≡ number_at q d *ℤ pos 10
one_place_more q d h = aligned_again q (q + 1) d h (omega arith) ∙ times_power (number_at q d) (q + 1 - q) 1 (omega arith)

-- ---- the order of decimals

pub less_trans : (a b c : Decimal) → is_less a b ≡ true → is_less b c ≡ true → is_less a c ≡ true
less_trans a b c h k =
    let q = max (max a.p b.p) c.p in
    less_at q a c (omega arith) (omega arith) ∙ lt_chain (number_at q a) (number_at q b) (number_at q c)
    (sym (less_at q a b (omega arith) (omega arith)) ∙ h) (sym (less_at q b c (omega arith) (omega arith)) ∙ k)

pub less_most_trans : (a b c : Decimal) → is_less a b ≡ true → is_at_most b c ≡ true → is_less a c ≡ true
less_most_trans a b c h k =
    let q = max (max a.p b.p) c.p in
    less_at q a c (omega arith) (omega arith) ∙ lt_le_chain (number_at q a) (number_at q b) (number_at q c)
    (sym (less_at q a b (omega arith) (omega arith)) ∙ h) (sym (most_at q b c (omega arith) (omega arith)) ∙ k)

pub most_less_trans : (a b c : Decimal) → is_at_most a b ≡ true → is_less b c ≡ true → is_less a c ≡ true
most_less_trans a b c h k =
    let q = max (max a.p b.p) c.p in
    less_at q a c (omega arith) (omega arith) ∙ le_lt_chain (number_at q a) (number_at q b) (number_at q c)
    (sym (most_at q a b (omega arith) (omega arith)) ∙ h) (sym (less_at q b c (omega arith) (omega arith)) ∙ k)

pub most_trans : (a b c : Decimal) → is_at_most a b ≡ true → is_at_most b c ≡ true → is_at_most a c ≡ true
most_trans a b c h k =
    let q = max (max a.p b.p) c.p in
    most_at q a c (omega arith) (omega arith) ∙ le_chain (number_at q a) (number_at q b) (number_at q c)
    (sym (most_at q a b (omega arith) (omega arith)) ∙ h) (sym (most_at q b c (omega arith) (omega arith)) ∙ k)

-- the one is at most the other exactly where the other is not less
pub most_is_not_less : (a b : Decimal) → is_at_most a b ≡ not (is_less b a)
most_is_not_less a b =
    let q = max a.p b.p in
    most_at q a b (omega arith) (omega arith) ∙ le_not_lt (number_at q a) (number_at q b) ∙ ap not (sym (less_at q b a (omega arith) (omega arith)))

pub most_refl : (a : Decimal) → is_at_most a a ≡ true
most_refl a = most_is_not_less a a ∙ ap not (less_irrefl_at (number_at (max a.p a.p) a))

pub less_is_most : (a b : Decimal) → is_less a b ≡ true → is_at_most a b ≡ true
less_is_most a b h =
    let q = max a.p b.p in
    most_at q a b (omega arith) (omega arith) ∙ lt_le (number_at q a) (number_at q b) h

-- where the one is not less the other is at most it, and the other way round
pub not_less_is_most : (a b : Decimal) → is_less a b ≡ false → is_at_most b a ≡ true
not_less_is_most a b h = most_is_not_less b a ∙ ap not h

pub not_most_is_less : (a b : Decimal) → is_at_most a b ≡ false → is_less b a ≡ true
not_most_is_less a b h = not-false (is_less b a) (sym (most_is_not_less a b) ∙ h)

pub most_not_less : (a b : Decimal) → is_at_most a b ≡ true → is_less b a ≡ false
most_not_less a b h = not-true (is_less b a) (sym (most_is_not_less a b) ∙ h)

pub less_not_most : (a b : Decimal) → is_less a b ≡ true → is_at_most b a ≡ false
less_not_most a b h = most_is_not_less b a ∙ ap not h

pub most_both_same : (a b : Decimal) → is_at_most a b ≡ true → is_at_most b a ≡ true → is_same_value a b ≡ true
most_both_same a b h k =
    let q = max a.p b.p in
    both_le_same (number_at q a) (number_at q b) h (sym (most_at q b a (omega arith) (omega arith)) ∙ k)

pub same_is_most : (a b : Decimal) → is_same_value a b ≡ true → is_at_most a b ≡ true
same_is_most a b h =
    let q = max a.p b.p in
    same_le (number_at q a) (number_at q b) h

pub same_back : (a b : Decimal) → is_same_value a b ≡ true → is_same_value b a ≡ true
same_back a b h =
    let q = max a.p b.p in
    most_both_same b a
    (most_at q b a (omega arith) (omega arith) ∙ same_ge (number_at q a) (number_at q b) h) (same_is_most a b h)

-- ---- decimals past and between others

abbrev pub one_less : Decimal → Decimal
one_less d = record { n = d.n -ℤ pos 1; p = d.p }

abbrev pub one_more : Decimal → Decimal
one_more d = record { n = d.n +ℤ pos 1; p = d.p }

abbrev pub between : Decimal → Decimal → Decimal
between a b = record { n = (number_at (common_places a b) a +ℤ number_at (common_places a b) b) *ℤ pos 5; p = common_places a b + 1 }

pub one_less_below : (d : Decimal) → is_less (one_less d) d ≡ true
one_less_below d = less_at d.p (one_less d) d (omega arith) (omega arith) ∙ scaled_lt (d.n -ℤ pos 1) d.n (10 ^ (d.p - d.p)) (one-le-pow (d.p - d.p) 10 (omega arith)) ∙ step_down d.n

pub one_more_above : (d : Decimal) → is_less d (one_more d) ≡ true
one_more_above d = less_at d.p d (one_more d) (omega arith) (omega arith) ∙ scaled_lt d.n (d.n +ℤ pos 1) (10 ^ (d.p - d.p)) (one-le-pow (d.p - d.p) 10 (omega arith)) ∙ step_up d.n

pub between_above : (a b : Decimal) → is_less a b ≡ true → is_less a (between a b) ≡ true
between_above a b h =
    let c = max a.p b.p in
    less_at (c + 1) a (between a b) (omega arith) (omega arith)
    ∙ ap₂ int_lt (one_place_more c a (omega arith)) (no_place_more (c + 1) (between a b) refl)
    ∙ middle_above (number_at c a) (number_at c b) h

pub between_below : (a b : Decimal) → is_less a b ≡ true → is_less (between a b) b ≡ true
between_below a b h =
    let c = max a.p b.p in
    less_at (c + 1) (between a b) b (omega arith) (omega arith)
    ∙ ap₂ int_lt (no_place_more (c + 1) (between a b) refl) (one_place_more c b (omega arith))
    ∙ middle_below (number_at c a) (number_at c b) h
