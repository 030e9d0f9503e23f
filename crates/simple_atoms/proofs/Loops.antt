-- Steps of the loops over terms: what is done, and then the rest, is the whole.
use Rattle.std.proofs.Common.{◌≡◌, ℕ, suc, ◌+◌, ◌<◌, ◌≤◌, ◌==◌, true, false, List, [], ◌∷◌, ◌++◌, Option, Some, None, length, drop, take, ◌-◌, length-drop, get_or, refl, sym, ap, ap₂, ◌∙◌, arith, append_assoc, ◌⊎◌, inl, inr, drop-cons, pos, option_map}
use Rattle.std.specs.Prelude.{nat_lt}
use Rattle.std.specs.Option.{option_and_then}
use Rattle.std.specs.Ordering.{int_eq}
use Rattle.std.proofs.lemmas.Bool.{cases_Bool}
use Rattle.std.proofs.lemmas.Bool.Decides.{nat_tests}
use Rattle.std.proofs.lemmas.List.{drop_all, append-nil, take_all}
use Rattle.num_ends.specs.Decimal.{Decimal}
use Rattle.simple_atoms.specs.Forms.{Term, merged, placed, scaled_terms, with_term}
use Rattle.simple_atoms.specs.Ranged.{trimmed_sum, trimmed_product}
use Rattle.simple_atoms.specs.Values.{term_added, weighted}

pub next : {X : Type 0} (xs : List X) (i : ℕ) (x other : X) → i < length xs → x ≡ get_or xs i other → drop i xs ≡ x ∷ drop (i + 1) xs
next xs i x other within is =
    let step : suc i ≡ i + 1 = omega arith in
    drop-cons xs i other within ∙ ap₂ (λ y ys. y ∷ ys) (sym is) (ap (λ k. drop k xs) step)

-- ---- sums of weights

module _ (number : ℕ → Option Decimal) (terms : List Term) (i : ℕ) (t other : Term) (total : Decimal) (n : Option Decimal)
    (within : i < length terms) (is : t ≡ get_or terms i other) (its : n ≡ number t.0) where
  weighted_next : weighted number total (drop i terms) ≡ option_and_then (λ s. weighted number s (drop (i + 1) terms)) (option_and_then (term_added total t.1) n)
  unfolding weighted
  weighted_next =
      ap (weighted number total) (next terms i t other within is)
      ∙ ap (λ (m : Option Decimal). option_and_then (λ (s : Decimal). weighted number s (drop (i + 1) terms)) (option_and_then (term_added total t.1) m)) (sym its)

  pub weighted_some : (sum : Decimal) → Some sum ≡ option_and_then (term_added total t.1) n → weighted number sum (drop (i + 1) terms) ≡ weighted number total (drop i terms)
  weighted_some sum more = ap (option_and_then (λ (s : Decimal). weighted number s (drop (i + 1) terms))) more ∙ sym weighted_next

  pub weighted_none : None ≡ option_and_then (term_added total t.1) n → None ≡ weighted number total (drop i terms)
  weighted_none more = ap (option_and_then (λ (s : Decimal). weighted number s (drop (i + 1) terms))) more ∙ sym weighted_next

pub weighted_end : (number : ℕ → Option Decimal) (terms : List Term) (i : ℕ) (total : Decimal) → length terms ≤ i → Some total ≡ weighted number total (drop i terms)
unfolding weighted
weighted_end number terms i total behind = ap (weighted number total) (sym (drop_all i terms behind))

-- ---- scaled terms

-- terms, and then what may be none
abbrev pub after : List Term → Option (List Term) → Option (List Term)
after done rest = option_map (λ ts. done ++ ts) rest

after_one : (done : List Term) (t : Term) (rest : Option (List Term)) → after (done ++ t ∷ []) rest ≡ after done (option_map (λ ts. t ∷ ts) rest)
after_one done t None = refl
after_one done t (Some ts) = ap Some (append_assoc done (t ∷ []) ts)

with_term_after : (t : Term) (ts : List Term) → with_term t [] ++ ts ≡ with_term t ts
with_term_after t ts =
    elim (cases_Bool (int_eq t.1.n (pos 0))) [
      | inl e ↦ rw e refl
      | inr e ↦ rw e refl
    ]

after_term : (done : List Term) (t : Term) (rest : Option (List Term)) → after (done ++ with_term t []) rest ≡ after done (option_map (λ ts. with_term t ts) rest)
after_term done t None = refl
after_term done t (Some ts) = ap Some (append_assoc done (with_term t []) ts ∙ ap (λ (us : List Term). done ++ us) (with_term_after t ts))

pub after_none : (done : List Term) (rest : Option (List Term)) → None ≡ rest → None ≡ after done rest
after_none done rest e = ap (after done) e

module _ (k : Decimal) (terms : List Term) (i : ℕ) (t other : Term) (done : List Term) where
  pub scaled_some : (c : Decimal) → i < length terms → t ≡ get_or terms i other → trimmed_product k t.1 ≡ Some c
      → after (done ++ with_term (t.0, c) []) (scaled_terms k (drop (i + 1) terms)) ≡ after done (scaled_terms k (drop i terms))
  unfolding scaled_terms
  scaled_some c within is more =
      after_term done (t.0, c) (scaled_terms k (drop (i + 1) terms))
      ∙ ap (after done) (sym (ap (scaled_terms k) (next terms i t other within is)
      ∙ ap (option_and_then (λ (d : Decimal). option_map (λ (ts : List Term). with_term (t.0, d) ts) (scaled_terms k (drop (i + 1) terms)))) more))

  pub scaled_none : i < length terms → t ≡ get_or terms i other → trimmed_product k t.1 ≡ None
      → None ≡ after done (scaled_terms k (drop i terms))
  unfolding scaled_terms
  scaled_none within is more =
      ap (after done) (sym (ap (scaled_terms k) (next terms i t other within is)
      ∙ ap (option_and_then (λ (d : Decimal). option_map (λ (ts : List Term). with_term (t.0, d) ts) (scaled_terms k (drop (i + 1) terms)))) more))

pub scaled_end : (k : Decimal) (terms : List Term) (i : ℕ) (done : List Term) → length terms ≤ i → Some done ≡ after done (scaled_terms k (drop i terms))
unfolding scaled_terms
scaled_end k terms i done behind = ap Some (sym (append-nil done)) ∙ ap (λ (ts : List Term). after done (scaled_terms k ts)) (sym (drop_all i terms behind))

-- ---- merged terms

merged_nothing : (ts : List Term) → merged ts [] ≡ Some ts
unfolding merged placed
merged_nothing [] = refl
merged_nothing (t ∷ ts) = ap (option_map (λ us. t ∷ us)) (merged_nothing ts)

module _ (left right : List Term) (i j : ℕ) (t u other another : Term) (done : List Term)
    (within : i < length left) (is : t ≡ get_or left i other) (within_too : j < length right) (also : u ≡ get_or right j another) where
  both_next : merged (drop i left) (drop j right) ≡ placed t (merged (drop (i + 1) left)) (u ∷ drop (j + 1) right)
  unfolding merged
  both_next = ap₂ merged (next left i t other within is) (next right j u another within_too also)

  pub first_comes : t.0 < u.0 → after (done ++ t ∷ []) (merged (drop (i + 1) left) (drop j right)) ≡ after done (merged (drop i left) (drop j right))
  unfolding placed
  first_comes less =
      after_one done t (merged (drop (i + 1) left) (drop j right))
      ∙ ap (after done) (ap (λ (us : List Term). option_map (λ (ts : List Term). t ∷ ts) (merged (drop (i + 1) left) us)) (next right j u another within_too also)
      ∙ sym (both_next ∙ rw (before t.0 u.0 less) refl))
    where
      before : (x y : ℕ) → x < y → nat_lt x y ≡ true
      before x y h = grind (arith, nat_tests)

  pub second_comes : u.0 < t.0 → after (done ++ u ∷ []) (merged (drop i left) (drop (j + 1) right)) ≡ after done (merged (drop i left) (drop j right))
  unfolding placed merged
  second_comes less =
      after_one done u (merged (drop i left) (drop (j + 1) right))
      ∙ ap (after done) (ap (λ (ts : List Term). option_map (λ (us : List Term). u ∷ us) (merged ts (drop (j + 1) right))) (next left i t other within is)
      ∙ sym (both_next ∙ rw (not_before t.0 u.0 less, not_same t.0 u.0 less) refl))
    where
      not_before : (x y : ℕ) → y < x → nat_lt x y ≡ false
      not_before x y h = grind (arith, nat_tests)

      not_same : (x y : ℕ) → y < x → x == y ≡ false
      not_same x y h = grind (arith, nat_tests)

  module _ (not_less : u.0 ≤ t.0) (not_more : t.0 ≤ u.0) where
    together : merged (drop i left) (drop j right)
        ≡ option_and_then (λ c. option_map (λ ts. with_term (t.0, c) ts) (merged (drop (i + 1) left) (drop (j + 1) right))) (trimmed_sum t.1 u.1)
    unfolding placed
    together = both_next ∙ rw (not_before t.0 u.0 not_less, same t.0 u.0 not_less not_more) refl
      where
        not_before : (x y : ℕ) → y ≤ x → nat_lt x y ≡ false
        not_before x y h = grind (arith, nat_tests)

        same : (x y : ℕ) → y ≤ x → x ≤ y → x == y ≡ true
        same x y h k = grind (arith, nat_tests)

    pub both_come : (c : Decimal) → trimmed_sum t.1 u.1 ≡ Some c
        → after (done ++ with_term (t.0, c) []) (merged (drop (i + 1) left) (drop (j + 1) right)) ≡ after done (merged (drop i left) (drop j right))
    both_come c more =
        after_term done (t.0, c) (merged (drop (i + 1) left) (drop (j + 1) right))
        ∙ ap (after done) (sym (together ∙ ap (option_and_then (λ (d : Decimal). option_map (λ (ts : List Term). with_term (t.0, d) ts) (merged (drop (i + 1) left) (drop (j + 1) right)))) more))

    pub none_come : trimmed_sum t.1 u.1 ≡ None → None ≡ after done (merged (drop i left) (drop j right))
    none_come more =
        ap (after done) (sym (together ∙ ap (option_and_then (λ (d : Decimal). option_map (λ (ts : List Term). with_term (t.0, d) ts) (merged (drop (i + 1) left) (drop (j + 1) right)))) more))

-- a slice from a place to the end
pub rest_of : (xs : List Term) (i : ℕ) → take (length xs - i) (drop i xs) ≡ drop i xs
rest_of xs i = take_all (length xs - i) (drop i xs) (omega (arith, length-drop i xs))

merged_ends : (left right : List Term) (i j : ℕ) (done : List Term) → (length left ≤ i) ⊎ (length right ≤ j)
    → Some ((done ++ drop i left) ++ drop j right) ≡ after done (merged (drop i left) (drop j right))
unfolding merged
merged_ends left right i j done (inl behind) =
    ap Some (append_assoc done (drop i left) (drop j right) ∙ ap (λ (ts : List Term). done ++ (ts ++ drop j right)) (drop_all i left behind))
    ∙ ap (λ (ts : List Term). after done (merged ts (drop j right))) (sym (drop_all i left behind))
merged_ends left right i j done (inr behind) =
    ap Some (ap (λ (us : List Term). (done ++ drop i left) ++ us) (drop_all j right behind) ∙ append-nil (done ++ drop i left))
    ∙ ap (after done) (sym (merged_nothing (drop i left)))
    ∙ ap (λ (us : List Term). after done (merged (drop i left) us)) (sym (drop_all j right behind))

pub merged_end : (left right : List Term) (i j : ℕ) (done : List Term) → (length left ≤ i) ⊎ (length right ≤ j)
    → Some ((done ++ take (length left - i) (drop i left)) ++ take (length right - j) (drop j right)) ≡ after done (merged (drop i left) (drop j right))
merged_end left right i j done past =
    ap₂ (λ (ts us : List Term). Some ((done ++ ts) ++ us)) (rest_of left i) (rest_of right j) ∙ merged_ends left right i j done past
