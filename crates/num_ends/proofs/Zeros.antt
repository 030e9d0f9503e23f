-- Last digits 0 behind the point.
use Rattle.std.proofs.Common.{◌≡◌, ℕ, zero, suc, ◌-◌, ◌/◌, ◌%◌, ◌<◌, cond, ℤ, pos, negsuc, neg_ℤ, int_lt, int_div, unsigned_abs, refl, ap, arith, inl, inr, eq-eqb, ne_eqb, le-ltb, zero-le}
use Rattle.std.proofs.lemmas.Bool.{cases_eq}
use Rattle.num_ends.specs.Decimal.{Decimal, trimmed, without_zeros}

pub zero_dropped : (p m : ℕ) → 0 < p → m % 10 ≡ 0 → without_zeros p (pos m) ≡ without_zeros (p - 1) (pos (m / 10))
zero_dropped zero m h e = absurd (omega arith)
zero_dropped (suc p) m h e =
    let k : suc p - 1 ≡ p = omega arith in
    rw (eq-eqb (m % 10) 0 e, k) refl

pub digit_kept : (p m : ℕ) → (p ≡ 0 → ⊥) → (m % 10 ≡ 0 → ⊥) → without_zeros p (pos m) ≡ record { n = pos m; p = p }
digit_kept zero m h e = absurd (h refl)
digit_kept (suc p) m h e = rw (ne_eqb (m % 10) 0 e) refl

pub no_places : (p m : ℕ) → p ≡ 0 → without_zeros p (pos m) ≡ record { n = pos m; p = p }
no_places zero m h = refl
no_places (suc p) m h = absurd (omega arith)

pub abs_negative : (m : ℕ) → unsigned_abs (neg_ℤ (pos m)) ≡ m
abs_negative zero = refl
abs_negative (suc m) = refl

div_negative : (m : ℕ) → int_div (neg_ℤ (pos m)) (pos 10) ≡ neg_ℤ (pos (m / 10))
div_negative zero = refl
div_negative (suc m) = refl

-- a negative number loses the same zeros
pub negative_zeros : (p m n q : ℕ) → without_zeros p (pos m) ≡ record { n = pos n; p = q } → without_zeros p (neg_ℤ (pos m)) ≡ record { n = neg_ℤ (pos n); p = q }
negative_zeros zero m n q e = ap (λ (d : Decimal). record { n = neg_ℤ d.n; p = d.p }) e
negative_zeros (suc p) m n q e =
    elim (cases_eq (m % 10) 0) [
      | inl z ↦
          let b = eq-eqb (m % 10) 0 z in
          let here : without_zeros p (pos (m / 10)) ≡ record { n = pos n; p = q } = rw b at e in
          rw (abs_negative m, b, div_negative m) (negative_zeros p (m / 10) n q here)
      | inr z ↦
          let b = ne_eqb (m % 10) 0 z in
          let here : (record { n = pos m; p = suc p }) ≡ record { n = pos n; p = q } = rw b at e in
          rw (abs_negative m, b) (ap (λ (d : Decimal). record { n = neg_ℤ d.n; p = d.p }) here)
    ]

signed_zeros : (p : ℕ) (z : ℤ) (m q : ℕ) → without_zeros p (pos (unsigned_abs z)) ≡ record { n = pos m; p = q }
    → without_zeros p z ≡ record { n = cond (int_lt z (pos 0)) (neg_ℤ (pos m)) (pos m); p = q }
signed_zeros p (pos a) m q e = rw (le-ltb a 0 zero-le) e
signed_zeros p (negsuc a) m q e = negative_zeros p (suc a) m q e

pub trimmed_by_sign : (d : Decimal) (m q : ℕ) → without_zeros d.p (pos (unsigned_abs d.n)) ≡ record { n = pos m; p = q }
    → trimmed d ≡ record { n = cond (int_lt d.n (pos 0)) (neg_ℤ (pos m)) (pos m); p = q }
unfolding trimmed
trimmed_by_sign d m q e = signed_zeros d.p d.n m q e
