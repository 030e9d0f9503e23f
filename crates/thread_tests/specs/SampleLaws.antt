-- The two systems of the tests keep the law.
use Rattle.std.proofs.Common.{◌≡◌, ℕ, zero, suc, ◌-◌, ◌%◌, ◌<◌, ◌≤◌, eqb, eq-eqb, ne_eqb, Bool, true, false, cond, nat_lt, List, get_or, Option, Some, None, sym, refl, ap, ◌∙◌, subst, arith}
use Rattle.std.proofs.lemmas.Bool.{ltb-false, ltb-true, le-ltb}
use Rattle.bound_words.specs.Rows.{Terms, IsPast, IsRow, IsRowPast, IsMonotone}
use Rattle.thread_tests.specs.Samples.{small, small_asks, chain, chain_asks, chain_target}

is_some : (p q : ℕ × ℕ) → Some p ≡ Some q → p ≡ q
is_some p q e = cc

none_or : (b : Bool) (p q : ℕ × ℕ) → cond b None (Some p) ≡ Some q → (b ≡ false) × (p ≡ q)
none_or true p q e = absurd (cc)
none_or false p q e = (refl, is_some p q e)

or_none : (b : Bool) (p q : ℕ × ℕ) → cond b (Some p) None ≡ Some q → (b ≡ true) × (p ≡ q)
or_none true p q e = (refl, is_some p q e)
or_none false p q e = absurd (cc)

abbrev Grown : Terms → Option (ℕ × ℕ) → ℕ × ℕ → Type 0
Grown t asked p = (y : ℕ) × (asked ≡ Some (p.0, y)) × IsPast (t.direction p.0) p.1 y

not_zero : (a b : ℕ) → a ≤ b → eqb a 0 ≡ false → eqb b 0 ≡ false
not_zero a b le e = ne_eqb b 0 (λ z. let c : true ≡ false = sym (eq-eqb a 0 (omega arith)) ∙ e in cc)

not_above : (a b : ℕ) → b ≤ a → nat_lt 7 a ≡ false → nat_lt 7 b ≡ false
not_above a b le e = let h = ltb-false 7 a e in le-ltb 7 b (omega arith)

small_word : (rule : ℕ) (row : List ℕ) (w x : ℕ) → small_asks rule row ≡ Some (w, x) → (w < 3) × (x < 18446744073709551616)
small_word zero row w x e = subst (λ (p : ℕ × ℕ). (p.0 < 3) × (p.1 < 18446744073709551616)) (is_some (0, 3) (w, x) e) (omega arith, omega arith)
small_word (suc zero) row w x e = subst (λ (p : ℕ × ℕ). (p.0 < 3) × (p.1 < 18446744073709551616)) (none_or (eqb (get_or row 0 0) 0) (1, 10 - get_or row 0 0) (w, x) e).1 (omega arith, omega arith)
small_word (suc (suc rule)) row w x e = subst (λ (p : ℕ × ℕ). (p.0 < 3) × (p.1 < 18446744073709551616)) (none_or (nat_lt 7 (get_or row 1 0)) (2, 4) (w, x) e).1 (omega arith, omega arith)

small_grows : (rule : ℕ) (a b : List ℕ) (w x : ℕ) → IsRowPast small a b → small_asks rule a ≡ Some (w, x) → Grown small (small_asks rule b) (w, x)
small_grows zero a b w x past e = subst (Grown small (Some (0, 3))) (is_some (0, 3) (w, x) e) (3, refl, omega arith)
small_grows (suc zero) a b w x past e = let up : get_or a 0 0 ≤ get_or b 0 0 = past 0 (omega arith) in let h = none_or (eqb (get_or a 0 0) 0) (1, 10 - get_or a 0 0) (w, x) e in
    subst (Grown small (small_asks 1 b)) h.1 (10 - get_or b 0 0, ap (λ c. cond c None (Some (1, 10 - get_or b 0 0))) (not_zero (get_or a 0 0) (get_or b 0 0) up h.0), omega arith)
small_grows (suc (suc rule)) a b w x past e = let down : get_or b 1 0 ≤ get_or a 1 0 = past 1 (omega arith) in let h = none_or (nat_lt 7 (get_or a 1 0)) (2, 4) (w, x) e in
    subst (Grown small (small_asks (suc (suc rule)) b)) h.1 (4, ap (λ c. cond c None (Some (2, 4))) (not_above (get_or a 1 0) (get_or b 1 0) down h.0), λ i. omega arith)

pub small_monotone : IsMonotone small
small_monotone = record {
  asked_word = λ rule row w x h is_row e. small_word rule row w x e;
  grows = λ rule a b w x h ra rb past e. small_grows rule a b w x past e;
}

chain_word : (rule : ℕ) (row : List ℕ) (w x : ℕ) → IsRow chain row → chain_asks rule row ≡ Some (w, x) → (w < 10000) × (x < 18446744073709551616)
chain_word rule row w x is_row e = let h = or_none (nat_lt (chain_target rule) 10000) (chain_target rule, get_or row (rule % 10000) 0) (w, x) e in let v = is_row.fits (rule % 10000) (omega arith) in
    subst (λ (p : ℕ × ℕ). (p.0 < 10000) × (p.1 < 18446744073709551616)) h.1 (below (chain_target rule) h.0, v)
  where
    below : (n : ℕ) → nat_lt n 10000 ≡ true → n < 10000
    below n e = ltb-true n 10000 e

chain_grows : (rule : ℕ) (a b : List ℕ) (w x : ℕ) → IsRowPast chain a b → chain_asks rule a ≡ Some (w, x) → Grown chain (chain_asks rule b) (w, x)
chain_grows rule a b w x past e = let h = or_none (nat_lt (chain_target rule) 10000) (chain_target rule, get_or a (rule % 10000) 0) (w, x) e in
    subst (Grown chain (chain_asks rule b)) h.1 (get_or b (rule % 10000) 0, ap (λ c. cond c (Some (chain_target rule, get_or b (rule % 10000) 0)) None) h.0, past (rule % 10000) (omega arith))

pub chain_monotone : IsMonotone chain
chain_monotone = record {
  asked_word = λ rule row w x h is_row e. chain_word rule row w x is_row e;
  grows = λ rule a b w x h ra rb past e. chain_grows rule a b w x past e;
}
