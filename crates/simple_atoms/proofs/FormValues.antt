-- The value of a linear form is that of what it is the form of.
use Rattle.std.proofs.Common.{◌≡◌, ◌∷◌, [], ℕ, ◌==◌, Bool, true, false, List, Option, Some, None, length, map, refl, sym, ap, ◌∙◌, pos, inl, inr, arith, option_map, eqb-true, int_eq}
use Rattle.std.specs.Prelude.{nat_lt}
use Rattle.std.specs.Option.{option_and_then}
use Rattle.std.proofs.lemmas.Bool.{cases_Bool}
use Rattle.std.proofs.lemmas.Bool.Decides.{Decides-int_eq}
use Rattle.num_ends.specs.Decimal.{Decimal, origin, sum_of, difference_of, product_of, trimmed}
use Rattle.num_ends.specs.Arithmetic.{negative_of}
use Rattle.num_ends.specs.Range.{where_fits}
use Rattle.std.proofs.Math.IntN.{*ℤ-zero}
use Rattle.num_ends.proofs.Operations.{product_comm}
use Rattle.simple_atoms.specs.declared.combination.Combination.{Combination}
use Rattle.simple_atoms.specs.Forms.{Term, difference_of_forms, joined, merged, negative_form, placed, product_of_forms, scaled, scaled_terms, sum_of_forms, with_term}
use Rattle.simple_atoms.specs.Ranged.{trimmed_sum, trimmed_product}
use Rattle.simple_atoms.specs.Values.{value_of_terms}
use Rattle.simple_atoms.proofs.Ring.{Same, same_trim, same_sum, same_product, sum_comm, sum_assoc, sum_zero, sum_exchange, sum_swap, difference_is_sum, negative_of_sum, product_of_sum, sum_of_products, product_order, product_of_negative, zero_same, zero_times}

-- ---- options

some_one : {C : Type 0} (a b : C) → Some a ≡ Some b → a ≡ b
some_one a b h = cc

pub mapped : {A B : Type 0} (f : A → B) (x : Option A) (y : B) → option_map f x ≡ Some y → (a : A) × (x ≡ Some a) × (f a ≡ y)
mapped f None y e = cc
mapped f (Some a) y e = (a, refl, some_one (f a) y e)
  where
    some_one : {C : Type 0} (a b : C) → Some a ≡ Some b → a ≡ b
    some_one a b h = cc

pub followed : {A B : Type 0} (f : A → Option B) (x : Option A) (y : B) → option_and_then f x ≡ Some y → (a : A) × (x ≡ Some a) × (f a ≡ Some y)
followed f None y e = cc
followed f (Some a) y e = (a, refl, e)

fitting : (fits : Bool) (d e : Decimal) → where_fits fits d ≡ Some e → e ≡ d
fitting true d e h = sym (some_one d e h)
fitting false d e h = cc

pub sum_is : (a b c : Decimal) → trimmed_sum a b ≡ Some c → c ≡ trimmed (sum_of a b)
unfolding trimmed_sum
sum_is a b c h = fitting _ (trimmed (sum_of a b)) c h

pub product_is : (a b c : Decimal) → trimmed_product a b ≡ Some c → c ≡ trimmed (product_of a b)
unfolding trimmed_product
product_is a b c h = fitting _ (trimmed (product_of a b)) c h

-- ---- terms

module _ (v : ℕ → Decimal) where
  -- the value of one term
  abbrev pub weight : Term → Decimal
  weight t = product_of t.1 (v t.0)

  abbrev pub total : List Term → Decimal
  total = value_of_terms v

  pub total-cons : (t : Term) (ts : List Term) → total (t ∷ ts) ≡ sum_of (weight t) (total ts)
  unfolding value_of_terms
  total-cons t ts = refl

  pub total-none : total [] ≡ origin
  unfolding value_of_terms
  total-none = refl

  -- a term of coefficient 0 may be left out
  with_term_value : (t : Term) (ts : List Term) → Same (total (with_term t ts)) (sum_of (weight t) (total ts))
  with_term_value t ts =
      elim (cases_Bool (int_eq t.1.n (pos 0))) [
        | inl e ↦ rw e (sym (same_sum (weight t) (total ts) origin (total ts) (zero_times t.1 (v t.0) ((Decides-int_eq t.1.n (pos 0)).0 e)) refl ∙ ap trimmed (sum_zero (total ts))))
        | inr e ↦ rw e (ap trimmed (total-cons t ts))
      ]

  -- two terms of one fluent together
  both_terms : (x : ℕ) (a b c : Decimal) → c ≡ trimmed (sum_of a b) → Same (product_of c (v x)) (sum_of (product_of a (v x)) (product_of b (v x)))
  both_terms x a b c e =
      same_product c (v x) (sum_of a b) (v x) (ap trimmed e ∙ same_trim (sum_of a b)) refl ∙ ap trimmed (sum_of_products a b (v x))

  -- a term before what follows it
  before_value : (t : Term) (sum : Decimal) (ts us : List Term) → Same (total ts) (sum_of sum (total us)) → Same (total (t ∷ ts)) (sum_of (sum_of (weight t) sum) (total us))
  before_value t sum ts us e =
      ap trimmed (total-cons t ts) ∙ same_sum (weight t) (total ts) (weight t) (sum_of sum (total us)) refl e
      ∙ ap trimmed (sym (sum_assoc (weight t) sum (total us)))

  -- two terms as one, before what follows both
  here_value : (t u : Term) (sum c : Decimal) (ts us : List Term) → t.0 ≡ u.0 → c ≡ trimmed (sum_of t.1 u.1) → Same (total ts) (sum_of sum (total us))
      → Same (total (with_term (t.0, c) ts)) (sum_of (sum_of (weight t) sum) (total (u ∷ us)))
  here_value t u sum c ts us same is e =
      with_term_value (t.0, c) ts
      ∙ same_sum (product_of c (v t.0)) (total ts) (sum_of (weight t) (product_of u.1 (v t.0))) (sum_of sum (total us)) (both_terms t.0 t.1 u.1 c is) e
      ∙ ap trimmed (sum_exchange (weight t) (product_of u.1 (v t.0)) sum (total us)
      ∙ ap (λ (x : ℕ). sum_of (sum_of (weight t) sum) (sum_of (product_of u.1 (v x)) (total us))) same
      ∙ ap (sum_of (sum_of (weight t) sum)) (sym (total-cons u us)))

  -- another term before a term's place
  past_value : (u : Term) (sum : Decimal) (ts us : List Term) → Same (total ts) (sum_of sum (total us)) → Same (total (u ∷ ts)) (sum_of sum (total (u ∷ us)))
  past_value u sum ts us e =
      ap trimmed (total-cons u ts) ∙ same_sum (weight u) (total ts) (weight u) (sum_of sum (total us)) refl e
      ∙ ap trimmed (sum_swap (weight u) sum (total us) ∙ ap (sum_of sum) (sym (total-cons u us)))

  placed_value : (t : Term) (rest : List Term → Option (List Term)) (sum : Decimal)
      → ((us ws : List Term) → rest us ≡ Some ws → Same (total ws) (sum_of sum (total us)))
      → (us ws : List Term) → placed t rest us ≡ Some ws → Same (total ws) (sum_of (sum_of (weight t) sum) (total us))
  unfolding placed
  placed_value t rest sum is [] ws h =
      let got = mapped (λ (ts : List Term). t ∷ ts) (rest []) ws h in
      ap (λ (xs : List Term). trimmed (total xs)) (sym got.2) ∙ before_value t sum got.0 [] (is [] got.0 got.1)
  placed_value t rest sum is (u ∷ us) ws h =
      elim (cases_Bool (nat_lt t.0 u.0)) [
        | inl before ↦
            let got = mapped (λ (ts : List Term). t ∷ ts) (rest (u ∷ us)) ws (rw before at h) in
            ap (λ (xs : List Term). trimmed (total xs)) (sym got.2) ∙ before_value t sum got.0 (u ∷ us) (is (u ∷ us) got.0 got.1)
        | inr not_before ↦ elim (cases_Bool (t.0 == u.0)) [
          | inl here ↦
              let one = followed (λ (c : Decimal). option_map (λ (ts : List Term). with_term (t.0, c) ts) (rest us)) (trimmed_sum t.1 u.1) ws (rw (not_before, here) at h) in
              let got = mapped (λ (ts : List Term). with_term (t.0, one.0) ts) (rest us) ws one.2 in
              ap (λ (xs : List Term). trimmed (total xs)) (sym got.2)
              ∙ here_value t u sum one.0 got.0 us (eqb-true t.0 u.0 here) (sum_is t.1 u.1 one.0 one.1) (is us got.0 got.1)
          | inr past ↦
              let got = mapped (λ (ts : List Term). u ∷ ts) (placed t rest us) ws (rw (not_before, past) at h) in
              ap (λ (xs : List Term). trimmed (total xs)) (sym got.2)
              ∙ past_value u (sum_of (weight t) sum) got.0 us (placed_value t rest sum is us got.0 got.1)
        ]
      ]

  pub merged_value : (ts us ws : List Term) → merged ts us ≡ Some ws → Same (total ws) (sum_of (total ts) (total us))
  unfolding merged
  merged_value [] us ws h = ap (λ (xs : List Term). trimmed (total xs)) (sym (some_one us ws h)) ∙ ap trimmed (sym (ap (λ (d : Decimal). sum_of d (total us)) total-none ∙ sum_zero (total us)))
  merged_value (t ∷ ts) us ws h =
      placed_value t (merged ts) (total ts) (merged_value ts) us ws h
      ∙ ap (λ (d : Decimal). trimmed (sum_of d (total us))) (sym (total-cons t ts))

  -- ---- forms

  abbrev pub meant : Combination → Decimal
  meant a = sum_of a.constant (total a.terms)

  negative_terms : (ts : List Term) → Same (total (map (λ t. (t.0, negative_of t.1)) ts)) (negative_of (total ts))
  negative_terms [] = ap trimmed total-none ∙ ap (λ (d : Decimal). trimmed (negative_of d)) (sym total-none)
  negative_terms (t ∷ ts) =
      ap trimmed (total-cons (t.0, negative_of t.1) (map (λ u. (u.0, negative_of u.1)) ts))
      ∙ same_sum (product_of (negative_of t.1) (v t.0)) (total (map (λ u. (u.0, negative_of u.1)) ts)) (negative_of (weight t)) (negative_of (total ts)) (ap trimmed (product_of_negative t.1 (v t.0))) (negative_terms ts)
      ∙ ap trimmed (sym (negative_of_sum (weight t) (total ts)) ∙ ap negative_of (sym (total-cons t ts)))

  negative_value : (a : Combination) → Same (meant (negative_form a)) (negative_of (meant a))
  negative_value a =
      same_sum (negative_of a.constant) (total (map (λ t. (t.0, negative_of t.1)) a.terms)) (negative_of a.constant) (negative_of (total a.terms)) refl (negative_terms a.terms)
      ∙ ap trimmed (sym (negative_of_sum a.constant (total a.terms)))

  -- the parts of a form that was put together
  joined_parts : (terms : Option (List Term)) (constant : Option Decimal) (f : Combination) → joined terms constant ≡ Some f → (terms ≡ Some f.terms) × (constant ≡ Some f.constant)
  joined_parts terms constant f h =
      let one = followed (λ (ts : List Term). option_map (λ (c : Decimal). record { terms = ts; constant = c }) constant) terms f h in
      let got = mapped (λ (c : Decimal). record { terms = one.0; constant = c }) constant f one.2 in
      (one.1 ∙ ap (λ (a : Combination). Some a.terms) got.2, got.1 ∙ ap (λ (a : Combination). Some a.constant) got.2)

  pub sum_value : (a b f : Combination) → sum_of_forms a b ≡ Some f → Same (meant f) (sum_of (meant a) (meant b))
  sum_value a b f h =
      let parts = joined_parts (merged a.terms b.terms) (trimmed_sum a.constant b.constant) f h in
      same_sum f.constant (total f.terms) (sum_of a.constant b.constant) (sum_of (total a.terms) (total b.terms))
      (ap trimmed (sum_is a.constant b.constant f.constant parts.1) ∙ same_trim (sum_of a.constant b.constant))
      (merged_value a.terms b.terms f.terms parts.0)
      ∙ ap trimmed (sum_exchange a.constant b.constant (total a.terms) (total b.terms))

  pub difference_value : (a b f : Combination) → difference_of_forms a b ≡ Some f → Same (meant f) (difference_of (meant a) (meant b))
  difference_value a b f h =
      sum_value a (negative_form b) f h
      ∙ same_sum (meant a) (meant (negative_form b)) (meant a) (negative_of (meant b)) refl (negative_value b)
      ∙ ap trimmed (sym (difference_is_sum (meant a) (meant b)))

  scaled_value : (k : Decimal) (ts us : List Term) → scaled_terms k ts ≡ Some us → Same (total us) (product_of k (total ts))
  unfolding scaled_terms
  scaled_value k [] us h =
      ap (λ (xs : List Term). trimmed (total xs)) (sym (some_one [] us h)) ∙ ap trimmed total-none
      ∙ sym (zero_same (product_of k (total [])) (ap (λ (d : Decimal). (product_of k d).n) total-none ∙ *ℤ-zero k.n))
  scaled_value k (t ∷ ts) us h =
      let one = followed (λ (c : Decimal). option_map (λ (xs : List Term). with_term (t.0, c) xs) (scaled_terms k ts)) (trimmed_product k t.1) us h in
      let got = mapped (λ (xs : List Term). with_term (t.0, one.0) xs) (scaled_terms k ts) us one.2 in
      ap (λ (xs : List Term). trimmed (total xs)) (sym got.2)
      ∙ with_term_value (t.0, one.0) got.0
      ∙ same_sum (product_of one.0 (v t.0)) (total got.0) (product_of k (weight t)) (product_of k (total ts))
      (same_product one.0 (v t.0) (product_of k t.1) (v t.0) (ap trimmed (product_is k t.1 one.0 one.1) ∙ same_trim (product_of k t.1)) refl ∙ ap trimmed (product_order k t.1 (v t.0)))
      (scaled_value k ts got.0 got.1)
      ∙ ap trimmed (sym (product_of_sum k (weight t) (total ts)) ∙ ap (product_of k) (sym (total-cons t ts)))

  scaled_form_value : (k : Decimal) (a f : Combination) → scaled k a ≡ Some f → Same (meant f) (product_of k (meant a))
  scaled_form_value k a f h =
      let parts = joined_parts (scaled_terms k a.terms) (trimmed_product k a.constant) f h in
      same_sum f.constant (total f.terms) (product_of k a.constant) (product_of k (total a.terms))
      (ap trimmed (product_is k a.constant f.constant parts.1) ∙ same_trim (product_of k a.constant))
      (scaled_value k a.terms f.terms parts.0)
      ∙ ap trimmed (sym (product_of_sum k a.constant (total a.terms)))

  -- a form without terms is its constant
  constant_value : (a : Combination) → length a.terms == 0 ≡ true → meant a ≡ a.constant
  constant_value a h = ap (λ (ts : List Term). sum_of a.constant (total ts)) (none a.terms h) ∙ ap (sum_of a.constant) total-none ∙ sum_comm a.constant origin ∙ sum_zero a.constant
    where
      none : (ts : List Term) → length ts == 0 ≡ true → ts ≡ []
      none [] e = refl
      none (t ∷ ts) e = absurd (omega (arith, eqb-true (length (t ∷ ts)) 0 e))

  pub product_value : (a b f : Combination) → product_of_forms a b ≡ Some f → Same (meant f) (product_of (meant a) (meant b))
  product_value a b f h =
      elim (cases_Bool (length a.terms == 0)) [
        | inl first ↦
            scaled_form_value a.constant b f (rw first at h)
            ∙ ap (λ (d : Decimal). trimmed (product_of d (meant b))) (sym (constant_value a first))
        | inr not_first ↦ elim (cases_Bool (length b.terms == 0)) [
          | inl second ↦
              scaled_form_value b.constant a f (rw (not_first, second) at h)
              ∙ ap trimmed (product_comm b.constant (meant a) ∙ ap (product_of (meant a)) (sym (constant_value b second)))
          | inr not_second ↦ absurd (none_some f (rw (not_first, not_second) at h))
        ]
      ]
    where
      none_some : (f : Combination) → None ≡ Some f → ⊥
      none_some f e = cc
