-- The inverse of a decimal, by magnitudes.
use Rattle.std.proofs.Common.{◌≡◌, ℕ, zero, suc, ◌+◌, ◌-◌, ◌*◌, ◌/◌, ◌%◌, ◌^◌, ◌<◌, ◌≤◌, Bool, true, false, cond, ℤ, pos, negsuc, neg_ℤ, ◌*ℤ◌, int_lt, unsigned_abs, sym, refl, ap, ap₂, ◌∙◌, subst, arith, ◌⊎◌, inl, inr, eq-eqb, ne_eqb, div-add-mod', pow-suc, mul_assoc, mul_comm, le-ltb, zero-le, add-suc}
use Rattle.std.proofs.lemmas.Bool.{cases_eq}
use Rattle.std.proofs.lemmas.Nat.{pow-add, mod-mul-add}
use Rattle.std.proofs.lemmas.Int.{unsigned_abs-mul}
use Rattle.num_ends.specs.Decimal.{Decimal, trimmed, without_zeros}
use Rattle.num_ends.specs.Arithmetic.{IsInverse}
use Rattle.num_ends.proofs.OrderSteps.{ten_positive}
use Rattle.num_ends.proofs.Zeros.{digit_kept, no_places, negative_zeros}

-- dropped zeros leave a product a power of ten
kept_product : (p q m : ℕ) (a n k : ℕ) → without_zeros p (pos q) ≡ record { n = pos n; p = k } → m * q ≡ 10 ^ (a + p) → m * n ≡ 10 ^ (a + k)
kept_product zero q m a n k e h =
    let same : q ≡ n = ap (λ (d : Decimal). unsigned_abs d.n) e in
    let none : 0 ≡ k = ap (λ (d : Decimal). d.p) e in
    subst (λ (i : ℕ). m * n ≡ 10 ^ (a + i)) none (subst (λ (i : ℕ). m * i ≡ 10 ^ (a + 0)) same h)
kept_product (suc p) q m a n k e h =
    elim (cases_eq (q % 10) 0) [
      | inl z ↦
          let here : without_zeros p (pos (q / 10)) ≡ record { n = pos n; p = k } = rw (eq-eqb (q % 10) 0 z) at e in
          let tens : q / 10 * 10 ≡ q = omega (arith, div-add-mod' q 10) in
          let more : 10 ^ (a + suc p) ≡ 10 ^ (a + p) * 10 = ap (λ (i : ℕ). 10 ^ i) (add-suc a p) ∙ pow-suc 10 (a + p) in
          let step : m * (q / 10) * 10 ≡ 10 ^ (a + p) * 10 = mul_assoc m (q / 10) 10 ∙ ap (λ (i : ℕ). m * i) tens ∙ h ∙ more in
          let down : m * (q / 10) ≡ 10 ^ (a + p) = omega arith in
          kept_product p (q / 10) m a n k here down
      | inr z ↦
          let here : (record { n = pos q; p = suc p }) ≡ record { n = pos n; p = k } = rw (ne_eqb (q % 10) 0 z) at e in
          let same : q ≡ n = ap (λ (d : Decimal). unsigned_abs d.n) here in
          let places : suc p ≡ k = ap (λ (d : Decimal). d.p) here in
          subst (λ (i : ℕ). m * n ≡ 10 ^ (a + i)) places (subst (λ (i : ℕ). m * i ≡ 10 ^ (a + suc p)) same h)
    ]

suc_not_zero : (p k : ℕ) → suc p ≡ k → k ≡ 0 → ⊥
suc_not_zero p k e x = omega arith

-- and no zero is left to drop
kept_kept : (p q n k : ℕ) → without_zeros p (pos q) ≡ record { n = pos n; p = k } → without_zeros k (pos n) ≡ record { n = pos n; p = k }
kept_kept zero q n k e =
    let none : k ≡ 0 = sym (ap (λ (d : Decimal). d.p) e) in
    no_places k n none
kept_kept (suc p) q n k e =
    elim (cases_eq (q % 10) 0) [
      | inl z ↦ kept_kept p (q / 10) n k (rw (eq-eqb (q % 10) 0 z) at e)
      | inr z ↦
          let here : (record { n = pos q; p = suc p }) ≡ record { n = pos n; p = k } = rw (ne_eqb (q % 10) 0 z) at e in
          let same : q ≡ n = ap (λ (d : Decimal). unsigned_abs d.n) here in
          let places : suc p ≡ k = ap (λ (d : Decimal). d.p) here in
          digit_kept k n (λ (x : k ≡ 0). suc_not_zero p k places x) (λ x. z (ap (λ (i : ℕ). i % 10) same ∙ x))
    ]

pub inverse_trimmed : (negative : Bool) (q n k : ℕ) → without_zeros 9 (pos q) ≡ record { n = pos n; p = k }
    → (e : Decimal) → e ≡ record { n = cond negative (neg_ℤ (pos n)) (pos n); p = k } → trimmed e ≡ e
unfolding trimmed
inverse_trimmed true q n k z e is = ap (λ (d : Decimal). without_zeros d.p d.n) is ∙ negative_zeros k n n k (kept_kept 9 q n k z) ∙ sym is
inverse_trimmed false q n k z e is = ap (λ (d : Decimal). without_zeros d.p d.n) is ∙ kept_kept 9 q n k z ∙ sym is

signed_product : (z : ℤ) (n : ℕ) → 0 < n → z *ℤ cond (int_lt z (pos 0)) (neg_ℤ (pos n)) (pos n) ≡ pos (unsigned_abs z * n)
signed_product (pos a) n h = rw (le-ltb a 0 zero-le) refl
signed_product (negsuc a) zero h = absurd (omega arith)
signed_product (negsuc a) (suc n) h = refl

-- the inverse with the sign of the decimal and the kept digits of the quotient
pub inverse_found : (d : Decimal) (q n k : ℕ) → unsigned_abs d.n * q ≡ 10 ^ (d.p + 9) → without_zeros 9 (pos q) ≡ record { n = pos n; p = k }
    → (e : Decimal) → e ≡ record { n = cond (int_lt d.n (pos 0)) (neg_ℤ (pos n)) (pos n); p = k } → IsInverse d e
inverse_found d q n k h z e is =
    let product : unsigned_abs d.n * n ≡ 10 ^ (d.p + k) = kept_product 9 q (unsigned_abs d.n) d.p n k z h in
    let positive : 0 < n = elim (cases_eq n 0) [ inl o ↦ absurd (omega (arith, ten_positive (d.p + k), ap (λ (i : ℕ). unsigned_abs d.n * i) o)) | inr o ↦ omega arith ] in
    subst (λ (x : Decimal). IsInverse d x) (sym is) (signed_product d.n n positive ∙ ap pos product)

no_multiple : (m k t : ℕ) → 0 < m → m * k ≡ t → t % m ≡ 0
no_multiple m k t h e =
    let turned : k * m + 0 ≡ t = omega arith in
    ap (λ (i : ℕ). i % m) (sym turned) ∙ mod-mul-add k m 0 h

pub inverse_divides : (d e : Decimal) → IsInverse d e → e.p ≤ 9 → 0 < unsigned_abs d.n → 10 ^ (d.p + 9) % unsigned_abs d.n ≡ 0
inverse_divides d e h few positive =
    let sizes : unsigned_abs d.n * unsigned_abs e.n ≡ 10 ^ (d.p + e.p) = sym (unsigned_abs-mul d.n e.n) ∙ ap unsigned_abs h in
    let places : d.p + e.p + (9 - e.p) ≡ d.p + 9 = omega arith in
    let raised : 10 ^ (d.p + e.p) * 10 ^ (9 - e.p) ≡ 10 ^ (d.p + 9) = sym (pow-add 10 (d.p + e.p) (9 - e.p)) ∙ ap (λ (i : ℕ). 10 ^ i) places in
    let whole : unsigned_abs d.n * (unsigned_abs e.n * 10 ^ (9 - e.p)) ≡ 10 ^ (d.p + 9) = sym (mul_assoc (unsigned_abs d.n) (unsigned_abs e.n) (10 ^ (9 - e.p))) ∙ ap (λ (i : ℕ). i * 10 ^ (9 - e.p)) sizes ∙ raised in
    no_multiple (unsigned_abs d.n) (unsigned_abs e.n * 10 ^ (9 - e.p)) (10 ^ (d.p + 9)) positive whole

pub inverse_not_zero : (d e : Decimal) → IsInverse d e → 0 < unsigned_abs d.n
inverse_not_zero d e h =
    let sizes : unsigned_abs d.n * unsigned_abs e.n ≡ 10 ^ (d.p + e.p) = sym (unsigned_abs-mul d.n e.n) ∙ ap unsigned_abs h in
    elim (cases_eq (unsigned_abs d.n) 0) [
      | inl z ↦ absurd (omega (arith, ten_positive (d.p + e.p), ap (λ (i : ℕ). i * unsigned_abs e.n) z))
      | inr z ↦ omega arith
    ]

quotient_times : (w m : ℕ) → w % m ≡ 0 → m * (w / m) ≡ w
quotient_times w m e = omega (arith, div-add-mod' w m, mul_comm m (w / m))

pub inverse_refused : (d : Decimal) (m w : ℕ) → m ≡ unsigned_abs d.n → w ≡ 10 ^ (d.p + 9) → (m ≡ 0) ⊎ (w % m ≡ 0 → ⊥) → (e : Decimal) → IsInverse d e → e.p ≤ 9 → ⊥
inverse_refused d m w em ew (inl z) e h few = omega (arith, inverse_not_zero d e h)
inverse_refused d m w em ew (inr n) e h few = n (ap₂ (λ (i j : ℕ). i % j) ew em ∙ inverse_divides d e h few (inverse_not_zero d e h))

pub inverse_given : (d : Decimal) (m w : ℕ) → m ≡ unsigned_abs d.n → w ≡ 10 ^ (d.p + 9) → w % m ≡ 0 → (n k : ℕ) → without_zeros 9 (pos (w / m)) ≡ record { n = pos n; p = k } → k ≤ 9
    → (e : Decimal) → e ≡ record { n = cond (int_lt d.n (pos 0)) (neg_ℤ (pos n)) (pos n); p = k } → IsInverse d e × (trimmed e ≡ e) × (e.p ≤ 9)
inverse_given d m w em ew r n k z few e is = (
  inverse_found d (w / m) n k (ap (λ (i : ℕ). i * (w / m)) (sym em) ∙ quotient_times w m r ∙ ew) z e is,
  inverse_trimmed (int_lt d.n (pos 0)) (w / m) n k z e is,
  subst (λ (x : Decimal). x.p ≤ 9) (sym is) few,
)

pub unit_power : (p : ℕ) → 10 ^ p * 10 ^ 9 ≡ 10 ^ (p + 9)
unit_power p = sym (pow-add 10 p 9)
