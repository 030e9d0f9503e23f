-- The trimmed decimal: the one of the least places among those of its value.
use Rattle.std.proofs.Common.{◌≡◌, ℕ, zero, suc, ◌+◌, ◌-◌, ◌*◌, ◌^◌, ◌/◌, ◌%◌, ◌≤◌, max, true, Bool, ◌==◌, ℤ, pos, negsuc, neg_ℤ, ◌*ℤ◌, ◌+ℤ◌, ◌-ℤ◌, int_lt, int_le, int_div, int_rem, unsigned_abs, sym, refl, ap, ap₂, ◌∙◌, arith, inl, inr, eqb-true, eq-eqb, cond, mul_comm}
use Rattle.std.proofs.lemmas.Int.{ints, quot-rem}
use Rattle.std.proofs.lemmas.Nat.{pow-add}
use Rattle.std.proofs.lemmas.Bool.{cases_Bool}
use Rattle.std.proofs.lemmas.Bool.Decides.{Decides-int_eq}
use Rattle.std.specs.Ordering.{int_eq, is_eq}
use Rattle.std.specs.declared.cmp.Ordering.TheVariants.{Less, Greater, Equal}
use Rattle.std.proofs.Math.Nat.{div-le_self}
use Rattle.std.proofs.Math.IntN.{*ℤ_comm}
use borrow.Author.Differences.{same_in}
use Rattle.num_ends.specs.Decimal.{Decimal, InRange, number_at, aligned, is_less, is_at_most, is_same_value, sum_of, difference_of, product_of, trimmed, without_zeros}
use Rattle.num_ends.proofs.Zeros.{abs_negative}
use Rattle.num_ends.proofs.Operations.{scaled_sum, sum_at, neg_scaled, neg_product}
use Rattle.num_ends.proofs.DecimalOrder.{less_at, most_at, scaled_twice, aligned_again, times_one, no_place_more}

-- ---- it has the value

rem_none : (n : ℤ) → unsigned_abs n % 10 ≡ 0 → int_rem n (pos 10) ≡ pos 0
rem_none (pos a) h = ap pos h
rem_none (negsuc a) h = ap (λ (m : ℕ). neg_ℤ (pos m)) h

tenth : (n : ℤ) → unsigned_abs n % 10 ≡ 0 → int_div n (pos 10) *ℤ pos 10 ≡ n
tenth n h =
    let e = quot-rem n (pos 10) in
    let z = rem_none n h in
    same_in _ _ (omega (arith, ints))

zeros_number : (q p : ℕ) (n : ℤ) → p ≤ q → number_at q (without_zeros p n) ≡ n *ℤ pos (10 ^ (q - p))
zeros_number q zero n h = refl
zeros_number q (suc p) n h =
    elim (cases_Bool (unsigned_abs n % 10 == 0)) [
      | inl e ↦
          let split : q - p ≡ 1 + (q - suc p) = omega arith in
          rw e (zeros_number q p (int_div n (pos 10)) (omega arith)
          ∙ ap (λ (k : ℕ). int_div n (pos 10) *ℤ pos (10 ^ k)) split
          ∙ ap (λ (k : ℕ). int_div n (pos 10) *ℤ pos k) (pow-add 10 1 (q - suc p))
          ∙ sym (scaled_twice (int_div n (pos 10)) 10 (10 ^ (q - suc p)))
          ∙ ap (λ (m : ℤ). m *ℤ pos (10 ^ (q - suc p))) (tenth n (eqb-true (unsigned_abs n % 10) 0 e)))
      | inr e ↦ rw e refl
    ]

pub trimmed_number : (q : ℕ) (d : Decimal) → d.p ≤ q → number_at q (trimmed d) ≡ number_at q d
unfolding trimmed
trimmed_number q d h = zeros_number q d.p d.n h

zeros_places : (p : ℕ) (n : ℤ) → (without_zeros p n).p ≤ p
zeros_places zero n = omega arith
zeros_places (suc p) n =
    elim (cases_Bool (unsigned_abs n % 10 == 0)) [
      | inl e ↦ rw e (omega (arith, zeros_places p (int_div n (pos 10))))
      | inr e ↦ rw e (omega arith)
    ]

-- it has no more places
pub trimmed_places : (d : Decimal) → (trimmed d).p ≤ d.p
unfolding trimmed
trimmed_places d = zeros_places d.p d.n

tenth_smaller : (n : ℤ) → unsigned_abs (int_div n (pos 10)) ≤ unsigned_abs n
tenth_smaller (pos a) = div-le_self a 10
tenth_smaller (negsuc a) = rw (abs_negative (suc a / 10)) (div-le_self (suc a) 10)

zeros_smaller : (p : ℕ) (n : ℤ) → unsigned_abs (without_zeros p n).n ≤ unsigned_abs n
zeros_smaller zero n = omega arith
zeros_smaller (suc p) n =
    elim (cases_Bool (unsigned_abs n % 10 == 0)) [
      | inl e ↦ rw e (omega (arith, zeros_smaller p (int_div n (pos 10)), tenth_smaller n))
      | inr e ↦ rw e (omega arith)
    ]

-- and no larger number
pub trimmed_range : (d : Decimal) → InRange d.n → InRange (trimmed d).n
unfolding trimmed
trimmed_range d h = omega (arith, zeros_smaller d.p d.n)

-- ---- equal values have one trimmed decimal

last_zero : (n : ℤ) → unsigned_abs (n *ℤ pos 10) % 10 ≡ 0
last_zero (pos a) = omega arith
last_zero (negsuc a) = rw (abs_negative (suc a * 10)) (omega arith)

tenth_back : (n : ℤ) → int_div (n *ℤ pos 10) (pos 10) ≡ n
tenth_back n = same_in _ _ (omega (arith, ints, tenth (n *ℤ pos 10) (last_zero n)))

zero_more : (p : ℕ) (n : ℤ) → without_zeros (suc p) (n *ℤ pos 10) ≡ without_zeros p n
zero_more p n = rw (eq-eqb (unsigned_abs (n *ℤ pos 10) % 10) 0 (last_zero n), tenth_back n) refl

zeros_more : (k p : ℕ) (n : ℤ) → without_zeros (p + k) (n *ℤ pos (10 ^ k)) ≡ without_zeros p n
zeros_more zero p n =
    let none : p + 0 ≡ p = omega arith in ap₂ without_zeros none (times_one n)
zeros_more (suc k) p n =
    let more : p + suc k ≡ suc p + k = omega arith in
    let next : suc k ≡ 1 + k = omega arith in
    ap₂ without_zeros more (ap (λ (j : ℕ). n *ℤ pos (10 ^ j)) next ∙ ap (λ (m : ℕ). n *ℤ pos m) (pow-add 10 1 k) ∙ sym (scaled_twice n 10 (10 ^ k)))
    ∙ zeros_more k (suc p) (n *ℤ pos 10) ∙ zero_more p n

-- it is the same at more places
pub trimmed_aligned : (q : ℕ) (d : Decimal) → d.p ≤ q → trimmed (aligned q d) ≡ trimmed d
unfolding trimmed
trimmed_aligned q d h =
    let split : q ≡ d.p + (q - d.p) = omega arith in
    ap (λ (m : ℕ). without_zeros m (number_at q d)) split ∙ zeros_more (q - d.p) d.p d.n

same_at : (q : ℕ) (a b : Decimal) → a.p ≤ q → b.p ≤ q → is_same_value a b ≡ int_eq (number_at q a) (number_at q b)
same_at q a b h k =
    ap₂ (λ (below above : Bool). is_eq (cond below Less (cond above Greater Equal))) (less_at q a b h k)
    (sym (less_at (max a.p b.p) b a (omega arith) (omega arith)) ∙ less_at q b a k h)

pub same_trimmed : (a b : Decimal) → is_same_value a b ≡ true → trimmed a ≡ trimmed b
same_trimmed a b h =
    let q = max a.p b.p in
    let first : a.p ≤ q = omega arith in
    let second : b.p ≤ q = omega arith in
    sym (trimmed_aligned q a first)
    ∙ ap (λ (n : ℤ). trimmed (record { n = n; p = q })) ((Decides-int_eq (number_at q a) (number_at q b)).0 h)
    ∙ trimmed_aligned q b second

pub trimmed_same : (a b : Decimal) → trimmed a ≡ trimmed b → is_same_value a b ≡ true
trimmed_same a b e =
    let q = max a.p b.p in
    let first : a.p ≤ q = omega arith in
    let second : b.p ≤ q = omega arith in
    (Decides-int_eq (number_at q a) (number_at q b)).1
    (sym (trimmed_number q a first) ∙ ap (number_at q) e ∙ trimmed_number q b second)

pub trimmed_twice : (d : Decimal) → trimmed (trimmed d) ≡ trimmed d
trimmed_twice d =
    let within : d.p ≤ d.p = omega arith in
    sym (trimmed_aligned d.p (trimmed d) (trimmed_places d))
    ∙ ap (λ (n : ℤ). trimmed (record { n = n; p = d.p })) (trimmed_number d.p d within)
    ∙ trimmed_aligned d.p d within

pub fewest_places : (a b : Decimal) → is_same_value a b ≡ true → (trimmed a).p ≤ b.p
fewest_places a b h = omega (arith, trimmed_places b, ap (λ (d : Decimal). d.p) (same_trimmed a b h))

-- ---- comparisons

pub less_of_trimmed : (a b : Decimal) → is_less (trimmed a) (trimmed b) ≡ is_less a b
less_of_trimmed a b =
    let q = max a.p b.p in
    let first : a.p ≤ q = omega arith in
    let second : b.p ≤ q = omega arith in
    less_at q (trimmed a) (trimmed b) (omega (arith, trimmed_places a)) (omega (arith, trimmed_places b))
    ∙ ap₂ int_lt (trimmed_number q a first) (trimmed_number q b second)

pub most_of_trimmed : (a b : Decimal) → is_at_most (trimmed a) (trimmed b) ≡ is_at_most a b
most_of_trimmed a b =
    let q = max a.p b.p in
    let first : a.p ≤ q = omega arith in
    let second : b.p ≤ q = omega arith in
    most_at q (trimmed a) (trimmed b) (omega (arith, trimmed_places a)) (omega (arith, trimmed_places b))
    ∙ ap₂ int_le (trimmed_number q a first) (trimmed_number q b second)

pub same_of_trimmed : (a b : Decimal) → is_same_value (trimmed a) (trimmed b) ≡ is_same_value a b
same_of_trimmed a b =
    let q = max a.p b.p in
    let first : a.p ≤ q = omega arith in
    let second : b.p ≤ q = omega arith in
    same_at q (trimmed a) (trimmed b) (omega (arith, trimmed_places a)) (omega (arith, trimmed_places b))
    ∙ ap₂ int_eq (trimmed_number q a first) (trimmed_number q b second)

-- ---- operations

difference_scaled : (x y : ℤ) (k : ℕ) → (x -ℤ y) *ℤ pos k ≡ x *ℤ pos k -ℤ y *ℤ pos k
difference_scaled x y k = scaled_sum x (neg_ℤ y) k ∙ ap (λ (m : ℤ). x *ℤ pos k +ℤ m) (neg_scaled y k)

times_negative : (x y : ℤ) → x *ℤ neg_ℤ y ≡ neg_ℤ (x *ℤ y)
times_negative x y = *ℤ_comm x (neg_ℤ y) ∙ neg_product y x ∙ ap neg_ℤ (*ℤ_comm y x)

factor_scaled : (x : ℤ) (b k : ℕ) → (x *ℤ pos b) *ℤ pos k ≡ (x *ℤ pos k) *ℤ pos b
factor_scaled x b k = scaled_twice x b k ∙ ap (λ (m : ℕ). x *ℤ pos m) (mul_comm b k) ∙ sym (scaled_twice x k b)

first_scaled : (x y : ℤ) (k : ℕ) → (x *ℤ y) *ℤ pos k ≡ (x *ℤ pos k) *ℤ y
first_scaled x (pos b) k = factor_scaled x b k
first_scaled x (negsuc b) k =
    ap (λ (m : ℤ). m *ℤ pos k) (times_negative x (pos (suc b))) ∙ neg_scaled (x *ℤ pos (suc b)) k
    ∙ ap neg_ℤ (factor_scaled x (suc b) k) ∙ sym (times_negative (x *ℤ pos k) (pos (suc b)))

product_scaled : (x y : ℤ) (j k : ℕ) → (x *ℤ y) *ℤ pos (j * k) ≡ (x *ℤ pos j) *ℤ (y *ℤ pos k)
product_scaled x y j k =
    sym (scaled_twice (x *ℤ y) j k) ∙ ap (λ (m : ℤ). m *ℤ pos k) (first_scaled x y j ∙ *ℤ_comm (x *ℤ pos j) y)
    ∙ first_scaled y (x *ℤ pos j) k ∙ *ℤ_comm (y *ℤ pos k) (x *ℤ pos j)

difference_number : (q : ℕ) (a b : Decimal) → a.p ≤ q → b.p ≤ q → number_at q (difference_of a b) ≡ number_at q a -ℤ number_at q b
difference_number q a b h k =
    let c = max a.p b.p in
    difference_scaled (number_at c a) (number_at c b) (10 ^ (q - c))
    ∙ sym (ap₂ (λ (m n : ℤ). m -ℤ n) (aligned_again c q a (omega arith) (omega arith)) (aligned_again c q b (omega arith) (omega arith)))

pub sum_of_trimmed : (a b : Decimal) → trimmed (sum_of (trimmed a) (trimmed b)) ≡ trimmed (sum_of a b)
sum_of_trimmed a b =
    let q = max a.p b.p in
    let first : a.p ≤ q = omega arith in
    let second : b.p ≤ q = omega arith in
    let fewer : (trimmed a).p ≤ q = omega (arith, trimmed_places a) in
    let few : (trimmed b).p ≤ q = omega (arith, trimmed_places b) in
    let c = max (trimmed a).p (trimmed b).p in
    let within : c ≤ q = omega arith in
    sym (trimmed_aligned q (sum_of (trimmed a) (trimmed b)) within)
    ∙ ap (λ (n : ℤ). trimmed (record { n = n; p = q }))
    (sum_at q (trimmed a) (trimmed b) fewer few ∙ ap₂ (λ (m n : ℤ). m +ℤ n) (trimmed_number q a first) (trimmed_number q b second))

pub difference_of_trimmed : (a b : Decimal) → trimmed (difference_of (trimmed a) (trimmed b)) ≡ trimmed (difference_of a b)
difference_of_trimmed a b =
    let q = max a.p b.p in
    let first : a.p ≤ q = omega arith in
    let second : b.p ≤ q = omega arith in
    let fewer : (trimmed a).p ≤ q = omega (arith, trimmed_places a) in
    let few : (trimmed b).p ≤ q = omega (arith, trimmed_places b) in
    let c = max (trimmed a).p (trimmed b).p in
    let within : c ≤ q = omega arith in
    sym (trimmed_aligned q (difference_of (trimmed a) (trimmed b)) within)
    ∙ ap (λ (n : ℤ). trimmed (record { n = n; p = q }))
    (difference_number q (trimmed a) (trimmed b) fewer few ∙ ap₂ (λ (m n : ℤ). m -ℤ n) (trimmed_number q a first) (trimmed_number q b second))

pub product_of_trimmed : (a b : Decimal) → trimmed (product_of (trimmed a) (trimmed b)) ≡ trimmed (product_of a b)
product_of_trimmed a b =
    let u = trimmed a in
    let v = trimmed b in
    let q = a.p + b.p in
    let within : u.p + v.p ≤ q = omega (arith, trimmed_places a, trimmed_places b) in
    let split : q - (u.p + v.p) ≡ (a.p - u.p) + (b.p - v.p) = omega (arith, trimmed_places a, trimmed_places b) in
    sym (trimmed_aligned q (product_of u v) within)
    ∙ ap (λ (n : ℤ). trimmed (record { n = n; p = q }))
    (ap (λ (k : ℕ). (u.n *ℤ v.n) *ℤ pos (10 ^ k)) split
    ∙ ap (λ (k : ℕ). (u.n *ℤ v.n) *ℤ pos k) (pow-add 10 (a.p - u.p) (b.p - v.p))
    ∙ product_scaled u.n v.n (10 ^ (a.p - u.p)) (10 ^ (b.p - v.p))
    ∙ ap₂ (λ (m n : ℤ). m *ℤ n) (own a) (own b))
  where
    own : (d : Decimal) → number_at d.p (trimmed d) ≡ d.n
    own d = trimmed_number d.p d (omega arith) ∙ no_place_more d.p d refl
