-- Decimals at a count of places that serves them, and sums there.
use Rattle.std.proofs.Common.{◌≡◌, ℕ, zero, suc, ◌+◌, ◌-◌, ◌^◌, ◌%◌, ◌≤◌, max, true, ◌==◌, ℤ, pos, negsuc, neg_ℤ, ◌*ℤ◌, ◌+ℤ◌, int_lt, int_le, int_div, int_rem, unsigned_abs, sym, refl, ap, ap₂, ◌∙◌, arith, inl, inr, mul-one, eqb-true, ◌/◌}
use Rattle.std.proofs.lemmas.Int.{ints, quot-rem}
use Rattle.std.proofs.lemmas.Nat.{pow-add}
use Rattle.std.proofs.lemmas.Bool.{cases_Bool}
use Rattle.std.proofs.Math.Nat.{one-le-pow, zero-mul, div-le_self}
use borrow.Author.Differences.{same_in, true_is_lt, true_is_le}
use Rattle.num_ends.specs.Decimal.{Decimal, InRange, number_at, origin, is_less, is_at_most, trimmed, without_zeros}
use Rattle.ground_task.specs.Meaning.{stands}
use Rattle.ground_task.specs.declared.raw.Rel.{Rel}
use Rattle.ground_task.specs.declared.raw.Rel.TheVariants.{Less, LessEqual, Equal, GreaterEqual, Greater}
use Rattle.box_model.specs.Demands.{exchanged}
use Rattle.num_ends.specs.Ends.{Interval, has}
use Rattle.num_ends.proofs.Members.{has_parts, has_from, above_rises, below_falls}
use Rattle.num_ends.proofs.Zeros.{abs_negative}
use Rattle.num_ends.proofs.DecimalOrder.{less_at, most_at, scaled_lt, scaled_twice, most_refl, same_is_most, most_both_same, same_back}

pub times_one : (x : ℤ) → x *ℤ pos 1 ≡ x
times_one (pos a) = ap pos (mul-one a)
times_one (negsuc a) = ap (λ (m : ℕ). neg_ℤ (pos m)) (mul-one (suc a))

-- a number at q places
abbrev pub at_places : ℕ → ℤ → Decimal
at_places q v = record { n = v; p = q }

pub number_same : (q : ℕ) (d : Decimal) → d.p ≡ q → number_at q d ≡ d.n
number_same q d e =
    let none : q - d.p ≡ 0 = omega arith in
    ap (λ (k : ℕ). d.n *ℤ pos (10 ^ k)) none ∙ times_one d.n

pub nothing_at : (q : ℕ) → number_at q origin ≡ pos 0
nothing_at q = ap pos (zero-mul (10 ^ (q - 0)))

-- ---- a trimmed decimal has the value

rem_none : (n : ℤ) → unsigned_abs n % 10 ≡ 0 → int_rem n (pos 10) ≡ pos 0
rem_none (pos a) h = ap pos h
rem_none (negsuc a) h = ap (λ (m : ℕ). neg_ℤ (pos m)) h

tenth : (n : ℤ) → unsigned_abs n % 10 ≡ 0 → int_div n (pos 10) *ℤ pos 10 ≡ n
tenth n h =
    let e = quot-rem n (pos 10) in
    let z = rem_none n h in
    same_in _ _ (omega (arith, ints))

zeros_number : (q p : ℕ) (n : ℤ) → p ≤ q → number_at q (without_zeros p n) ≡ n *ℤ pos (10 ^ (q - p))
zeros_number q zero n h = refl
zeros_number q (suc p) n h =
    elim (cases_Bool (unsigned_abs n % 10 == 0)) [
      | inl e ↦
          let split : q - p ≡ 1 + (q - suc p) = omega arith in
          rw e (zeros_number q p (int_div n (pos 10)) (omega arith)
          ∙ ap (λ (k : ℕ). int_div n (pos 10) *ℤ pos (10 ^ k)) split
          ∙ ap (λ (k : ℕ). int_div n (pos 10) *ℤ pos k) (pow-add 10 1 (q - suc p))
          ∙ sym (scaled_twice (int_div n (pos 10)) 10 (10 ^ (q - suc p)))
          ∙ ap (λ (m : ℤ). m *ℤ pos (10 ^ (q - suc p))) (tenth n (eqb-true (unsigned_abs n % 10) 0 e)))
      | inr e ↦ rw e refl
    ]

pub trimmed_number : (q : ℕ) (d : Decimal) → d.p ≤ q → number_at q (trimmed d) ≡ number_at q d
unfolding trimmed
trimmed_number q d h = zeros_number q d.p d.n h

zeros_places : (p : ℕ) (n : ℤ) → (without_zeros p n).p ≤ p
zeros_places zero n = omega arith
zeros_places (suc p) n =
    elim (cases_Bool (unsigned_abs n % 10 == 0)) [
      | inl e ↦ rw e (omega (arith, zeros_places p (int_div n (pos 10))))
      | inr e ↦ rw e (omega arith)
    ]

-- it has no more places
pub trimmed_places : (d : Decimal) → (trimmed d).p ≤ d.p
unfolding trimmed
trimmed_places d = zeros_places d.p d.n

tenth_smaller : (n : ℤ) → unsigned_abs (int_div n (pos 10)) ≤ unsigned_abs n
tenth_smaller (pos a) = div-le_self a 10
tenth_smaller (negsuc a) = rw (abs_negative (suc a / 10)) (div-le_self (suc a) 10)

zeros_smaller : (p : ℕ) (n : ℤ) → unsigned_abs (without_zeros p n).n ≤ unsigned_abs n
zeros_smaller zero n = omega arith
zeros_smaller (suc p) n =
    elim (cases_Bool (unsigned_abs n % 10 == 0)) [
      | inl e ↦ rw e (omega (arith, zeros_smaller p (int_div n (pos 10)), tenth_smaller n))
      | inr e ↦ rw e (omega arith)
    ]

-- and no larger number
pub trimmed_range : (d : Decimal) → InRange d.n → InRange (trimmed d).n
unfolding trimmed
trimmed_range d h = omega (arith, zeros_smaller d.p d.n)

-- ---- the same amount added on both sides

lt_shifted : (v m g : ℤ) → int_lt v m ≡ true → int_lt (v +ℤ g) (m +ℤ g) ≡ true
lt_shifted v m g h = sym (true_is_lt (v +ℤ g) (m +ℤ g) (omega (arith, ints)))

le_shifted : (v m g : ℤ) → int_le v m ≡ true → int_le (v +ℤ g) (m +ℤ g) ≡ true
le_shifted v m g h = sym (true_is_le (v +ℤ g) (m +ℤ g) (omega (arith, ints)))

pub less_shifted : (q : ℕ) (a b : Decimal) (g : ℤ) → a.p ≤ q → b.p ≤ q → is_less a b ≡ true → is_less (at_places q (number_at q a +ℤ g)) (at_places q (number_at q b +ℤ g)) ≡ true
less_shifted q a b g h k l =
    let x = at_places q (number_at q a +ℤ g) in
    let y = at_places q (number_at q b +ℤ g) in
    less_at q x y (omega arith) (omega arith) ∙ ap₂ int_lt (number_same q x refl) (number_same q y refl)
    ∙ lt_shifted (number_at q a) (number_at q b) g (sym (less_at q a b h k) ∙ l)

pub most_shifted : (q : ℕ) (a b : Decimal) (g : ℤ) → a.p ≤ q → b.p ≤ q → is_at_most a b ≡ true → is_at_most (at_places q (number_at q a +ℤ g)) (at_places q (number_at q b +ℤ g)) ≡ true
most_shifted q a b g h k l =
    let x = at_places q (number_at q a +ℤ g) in
    let y = at_places q (number_at q b +ℤ g) in
    most_at q x y (omega arith) (omega arith) ∙ ap₂ int_le (number_same q x refl) (number_same q y refl)
    ∙ le_shifted (number_at q a) (number_at q b) g (sym (most_at q a b h k) ∙ l)

-- ---- what stands so to a decimal stands so to the trimmed one

pub most_trimmed : (a k : Decimal) → is_at_most a k ≡ is_at_most a (trimmed k)
most_trimmed a k =
    let q = max (max a.p k.p) (trimmed k).p in
    most_at q a k (omega arith) (omega arith) ∙ ap (int_le (number_at q a)) (sym (trimmed_number q k (omega arith)))
    ∙ sym (most_at q a (trimmed k) (omega arith) (omega arith))

pub least_trimmed : (a k : Decimal) → is_at_most k a ≡ is_at_most (trimmed k) a
least_trimmed a k =
    let q = max (max a.p k.p) (trimmed k).p in
    most_at q k a (omega arith) (omega arith) ∙ ap (λ (m : ℤ). int_le m (number_at q a)) (sym (trimmed_number q k (omega arith)))
    ∙ sym (most_at q (trimmed k) a (omega arith) (omega arith))

-- a trimmed decimal is a member where the decimal is
pub has_trimmed : (i : Interval) (d : Decimal) → has i d ≡ true → has i (trimmed d) ≡ true
has_trimmed i d h =
    let parts = has_parts i d h in
    has_from i (trimmed d)
    (above_rises i.0 d (trimmed d) (sym (most_trimmed d d) ∙ most_refl d) parts.0)
    (below_falls i.1 (trimmed d) d (sym (least_trimmed d d) ∙ most_refl d) parts.1)

pub stands_exchanged : (r : Rel) (a b : Decimal) → stands r a b ≡ true → stands (exchanged r) b a ≡ true
stands_exchanged Less a b h = h
stands_exchanged LessEqual a b h = h
stands_exchanged Equal a b h = same_back a b h
stands_exchanged GreaterEqual a b h = h
stands_exchanged Greater a b h = h
