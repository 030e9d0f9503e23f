-- A decimal that is trimmed, has at most 9 places and is the inverse of another is the one that is computed.
use Rattle.std.proofs.Common.{◌≡◌, ◌+◌, ◌-◌, ◌*◌, ◌/◌, ◌%◌, ◌^◌, ◌<◌, ◌≤◌, ◌*ℤ◌, ℕ, zero, suc, ℤ, pos, negsuc, neg_ℤ, Bool, true, false, Some, None, cond, refl, sym, ap, ap₂, ◌∙◌, arith, unsigned_abs, int_lt, inl, inr, eq-eqb, ne_eqb, le-ltb, zero-le, mul_assoc, mul-suc, pow-suc}
use Rattle.std.proofs.Math.Nat.{mul-div_cancel, mul-div_cancel_left}
use Rattle.std.proofs.lemmas.Bool.{cases_eq}
use Rattle.std.proofs.lemmas.Option.{same_Some}
use Rattle.std.proofs.lemmas.Nat.{pow-add, mod-mul-add}
use Rattle.std.proofs.lemmas.Int.{unsigned_abs-mul}
use Rattle.num_ends.specs.Decimal.{Decimal, trimmed, without_zeros}
use Rattle.num_ends.specs.Arithmetic.{IsInverse}
use Rattle.num_ends.proofs.Inverses as inverses
use Rattle.num_ends.proofs.OrderSteps.{ten_positive}
use Rattle.num_ends.proofs.Zeros.{abs_negative, negative_zeros}
use Rattle.pddl_meaning.specs.Values.{inverse_of, signed}

-- ---- zeros behind the point

no_zeros : (n : ℕ) → n * 10 ^ 0 ≡ n
no_zeros n = omega arith

-- zeros that were added are dropped
zeros_dropped : (j k n : ℕ) → without_zeros (j + k) (pos (n * 10 ^ j)) ≡ without_zeros k (pos n)
zeros_dropped zero k n =
    let places : 0 + k ≡ k = omega arith in
    ap₂ (λ (i m : ℕ). without_zeros i (pos m)) places (no_zeros n)
zeros_dropped (suc j) k n =
    let tens : n * 10 ^ suc j ≡ n * 10 ^ j * 10 = ap (λ (i : ℕ). n * i) (pow-suc 10 j) ∙ sym (mul_assoc n (10 ^ j) 10) in
    let padded : n * 10 ^ j * 10 ≡ n * 10 ^ j * 10 + 0 = omega arith in
    let none : n * 10 ^ j * 10 % 10 ≡ 0 = ap (λ (i : ℕ). i % 10) padded ∙ mod-mul-add (n * 10 ^ j) 10 0 (omega arith) in
    let less : n * 10 ^ j * 10 / 10 ≡ n * 10 ^ j = mul-div_cancel (n * 10 ^ j) (omega arith) in
    let places : suc j + k ≡ suc (j + k) = omega arith in
    ap₂ (λ (i m : ℕ). without_zeros i (pos m)) places tens ∙ (rw (eq-eqb (n * 10 ^ j * 10 % 10) 0 none, less) (zeros_dropped j k n))

-- what is left of a number without its last zeros
digits_left : (k n : ℕ) → (r : ℕ × ℕ) × (without_zeros k (pos n) ≡ record { n = pos r.0; p = r.1 }) × (r.1 ≤ k)
digits_left zero n = ((n, 0), refl, omega arith)
digits_left (suc k) n =
    elim (cases_eq (n % 10) 0) [
      | inl z ↦ let x = digits_left k (n / 10) in (x.0, rw (eq-eqb (n % 10) 0 z) x.1, omega (arith, x.2))
      | inr z ↦ ((n, suc k), rw (ne_eqb (n % 10) 0 z) refl, omega arith)
    ]

-- a number is trimmed where its negative is
unsigned_zeros : (k n : ℕ) → without_zeros k (neg_ℤ (pos n)) ≡ record { n = neg_ℤ (pos n); p = k } → without_zeros k (pos n) ≡ record { n = pos n; p = k }
unsigned_zeros k n e =
    let x = digits_left k n in
    let other : (record { n = neg_ℤ (pos x.0.0); p = x.0.1 }) ≡ record { n = neg_ℤ (pos n); p = k } = sym (negative_zeros k n x.0.0 x.0.1 x.1) ∙ e in
    let same : x.0.0 ≡ n = sym (abs_negative x.0.0) ∙ ap (λ (d : Decimal). unsigned_abs d.n) other ∙ abs_negative n in
    let places : x.0.1 ≡ k = ap (λ (d : Decimal). d.p) other in
    x.1 ∙ ap₂ (λ (a b : ℕ). record { n = pos a; p = b }) same places

-- a trimmed decimal, brought to 9 places and trimmed again
again_trimmed : (s : Bool) (n k : ℕ) (e : Decimal) → k ≤ 9 → e ≡ record { n = signed s n; p = k } → trimmed e ≡ e
    → trimmed (record { n = signed s (n * 10 ^ (9 - k)); p = 9 }) ≡ e
unfolding trimmed
again_trimmed false n k e few is t =
    let nine : 9 ≡ 9 - k + k = omega arith in
    let own : without_zeros k (pos n) ≡ record { n = pos n; p = k } = ap (λ (d : Decimal). without_zeros d.p d.n) (sym is) ∙ t ∙ is in
    ap (λ (i : ℕ). without_zeros i (pos (n * 10 ^ (9 - k)))) nine ∙ zeros_dropped (9 - k) k n ∙ own ∙ sym is
again_trimmed true n k e few is t =
    let nine : 9 ≡ 9 - k + k = omega arith in
    let own : without_zeros k (pos n) ≡ record { n = pos n; p = k } = unsigned_zeros k n (ap (λ (d : Decimal). without_zeros d.p d.n) (sym is) ∙ t ∙ is) in
    let dropped : without_zeros 9 (pos (n * 10 ^ (9 - k))) ≡ record { n = pos n; p = k } = ap (λ (i : ℕ). without_zeros i (pos (n * 10 ^ (9 - k)))) nine ∙ zeros_dropped (9 - k) k n ∙ own in
    negative_zeros 9 (n * 10 ^ (9 - k)) n k dropped ∙ sym is

-- ---- inverses

not_positive : (n t : ℕ) → 0 < n → neg_ℤ (pos n) ≡ pos t → ⊥
not_positive zero t h e = absurd (omega arith)
not_positive (suc n) t h e = cc

sizes_positive : (a b : ℕ) → 0 < suc a * suc b
sizes_positive a b = omega (arith, mul-suc (suc a) b)

-- an inverse has the sign of its decimal
same_sign : (y z : ℤ) (t : ℕ) → 0 < t → y *ℤ z ≡ pos t → z ≡ signed (int_lt y (pos 0)) (unsigned_abs z)
same_sign (pos a) (pos b) t h e = rw (le-ltb a 0 zero-le) refl
same_sign (pos zero) (negsuc b) t h e =
    let none : 0 * suc b ≡ t = sym (unsigned_abs-mul (pos 0) (negsuc b)) ∙ ap unsigned_abs e in
    absurd (omega (arith, none))
same_sign (pos (suc a)) (negsuc b) t h e = absurd (not_positive (suc a * suc b) t (sizes_positive a b) e)
same_sign (negsuc a) (pos zero) t h e =
    let none : suc a * 0 ≡ t = sym (unsigned_abs-mul (negsuc a) (pos zero)) ∙ ap unsigned_abs e in
    let zero_times : suc a * 0 ≡ 0 = omega arith in
    absurd (omega (arith, none, zero_times))
same_sign (negsuc a) (pos (suc b)) t h e = absurd (not_positive (suc a * suc b) t (sizes_positive a b) e)
same_sign (negsuc a) (negsuc b) t h e = refl

quotient_digits : (d e : Decimal) → IsInverse d e → e.p ≤ 9 → 0 < unsigned_abs d.n → 10 ^ (d.p + 9) / unsigned_abs d.n ≡ unsigned_abs e.n * 10 ^ (9 - e.p)
quotient_digits d e h few positive =
    let sizes : unsigned_abs d.n * unsigned_abs e.n ≡ 10 ^ (d.p + e.p) = sym (unsigned_abs-mul d.n e.n) ∙ ap unsigned_abs h in
    let places : d.p + e.p + (9 - e.p) ≡ d.p + 9 = omega arith in
    let raised : 10 ^ (d.p + e.p) * 10 ^ (9 - e.p) ≡ 10 ^ (d.p + 9) = sym (pow-add 10 (d.p + e.p) (9 - e.p)) ∙ ap (λ (i : ℕ). 10 ^ i) places in
    let whole : unsigned_abs d.n * (unsigned_abs e.n * 10 ^ (9 - e.p)) ≡ 10 ^ (d.p + 9) = sym (mul_assoc (unsigned_abs d.n) (unsigned_abs e.n) (10 ^ (9 - e.p))) ∙ ap (λ (i : ℕ). i * 10 ^ (9 - e.p)) sizes ∙ raised in
    ap (λ (i : ℕ). i / unsigned_abs d.n) (sym whole) ∙ mul-div_cancel_left (unsigned_abs e.n * 10 ^ (9 - e.p)) positive

not_zero : (n : ℕ) → 0 < n → n ≡ 0 → ⊥
not_zero n h z = omega arith

pub inverse_given : (d e : Decimal) → IsInverse d e → trimmed e ≡ e → e.p ≤ 9 → Some e ≡ inverse_of d
inverse_given d e h t few =
    let positive = inverses.inverse_not_zero d e h in
    let sign = same_sign d.n e.n (10 ^ (d.p + e.p)) (ten_positive (d.p + e.p)) h in
    let back = again_trimmed (int_lt d.n (pos 0)) (unsigned_abs e.n) e.p e few (ap (λ (z : ℤ). record { n = z; p = e.p }) sign) t in
    rw (ne_eqb (unsigned_abs d.n) 0 (not_zero (unsigned_abs d.n) positive), eq-eqb (10 ^ (d.p + 9) % unsigned_abs d.n) 0 (inverses.inverse_divides d e h few positive), quotient_digits d e h few positive)
    (ap Some (sym back))

pub inverse_refused : (d : Decimal) → ((e : Decimal) → IsInverse d e → e.p ≤ 9 → ⊥) → None ≡ inverse_of d
inverse_refused d none =
    elim (cases_eq (unsigned_abs d.n) 0) [
      | inl z ↦ rw (eq-eqb (unsigned_abs d.n) 0 z) refl
      | inr z ↦ elim (cases_eq (10 ^ (d.p + 9) % unsigned_abs d.n) 0) [
        | inl r ↦
            let x = digits_left 9 (10 ^ (d.p + 9) / unsigned_abs d.n) in
            let found = inverses.inverse_given d (unsigned_abs d.n) (10 ^ (d.p + 9)) refl refl r x.0.0 x.0.1 x.1 x.2 (record { n = cond (int_lt d.n (pos 0)) (neg_ℤ (pos x.0.0)) (pos x.0.0); p = x.0.1 }) refl in
            absurd (none _ found.0 found.2)
        | inr r ↦ rw (ne_eqb (unsigned_abs d.n) 0 z, ne_eqb (10 ^ (d.p + 9) % unsigned_abs d.n) 0 r) refl
      ]
    ]

-- ---- what is computed

trimmed_digits : (s : Bool) (q n k : ℕ) → without_zeros 9 (pos q) ≡ record { n = pos n; p = k } → trimmed (record { n = signed s q; p = 9 }) ≡ record { n = signed s n; p = k }
unfolding trimmed
trimmed_digits false q n k e = e
trimmed_digits true q n k e = negative_zeros 9 q n k e

-- what is computed is an inverse, trimmed and of at most 9 places
pub inverse_sound : (d e : Decimal) → inverse_of d ≡ Some e → IsInverse d e × (trimmed e ≡ e) × (e.p ≤ 9)
inverse_sound d e h =
    elim (cases_eq (unsigned_abs d.n) 0) [
      | inl z ↦ let bad : None ≡ Some e = rw (eq-eqb (unsigned_abs d.n) 0 z) at h in cc
      | inr z ↦ elim (cases_eq (10 ^ (d.p + 9) % unsigned_abs d.n) 0) [
        | inl r ↦
            let x = digits_left 9 (10 ^ (d.p + 9) / unsigned_abs d.n) in
            let found : Some (trimmed (record { n = signed (int_lt d.n (pos 0)) (10 ^ (d.p + 9) / unsigned_abs d.n); p = 9 })) ≡ Some e =
            rw (ne_eqb (unsigned_abs d.n) 0 z, eq-eqb (10 ^ (d.p + 9) % unsigned_abs d.n) 0 r) at h in
            let is : e ≡ record { n = signed (int_lt d.n (pos 0)) x.0.0; p = x.0.1 } =
            sym (same_Some _ _ found) ∙ trimmed_digits (int_lt d.n (pos 0)) (10 ^ (d.p + 9) / unsigned_abs d.n) x.0.0 x.0.1 x.1 in
            inverses.inverse_given d (unsigned_abs d.n) (10 ^ (d.p + 9)) refl refl r x.0.0 x.0.1 x.1 x.2 e is
        | inr r ↦ let bad : None ≡ Some e = rw (ne_eqb (unsigned_abs d.n) 0 z, ne_eqb (10 ^ (d.p + 9) % unsigned_abs d.n) 0 r) at h in cc
      ]
    ]

-- where nothing is computed there is no inverse of at most 9 places
pub inverse_complete : (d : Decimal) → inverse_of d ≡ None → (e : Decimal) → IsInverse d e → e.p ≤ 9 → ⊥
inverse_complete d h e i few =
    let positive = inverses.inverse_not_zero d e i in
    let found : Some (trimmed (record { n = signed (int_lt d.n (pos 0)) (10 ^ (d.p + 9) / unsigned_abs d.n); p = 9 })) ≡ None =
    rw (ne_eqb (unsigned_abs d.n) 0 (not_zero (unsigned_abs d.n) positive), eq-eqb (10 ^ (d.p + 9) % unsigned_abs d.n) 0 (inverses.inverse_divides d e i few positive)) at h in
    cc
