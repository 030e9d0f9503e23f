-- Lists that change at one place, and words that two seats read.
use Rattle.std.proofs.Common.{◌≡◌, ◌≢◌, ◌⊎◌, ℕ, zero, suc, ◌<◌, List, [], ◌∷◌, ◌++◌, length, get_or, set, sym, refl, ap, subst, inl, inr, ⊎_elim, arith, All}
use mathlib.Core.Option.{some, some-injective, some-ne-none}
use lib.ListN.{get_elem?}
use Rattle.std.proofs.lemmas.List.Elements.{All-nil, All-cons, All-head}
use Rattle.atomic_table.proofs.Lists.{at_set}

module _ {A : Type 0} where
  pub at_snoc_here : (l : List A) (a b : A) (j : ℕ) → get_elem? (l ++ a ∷ []) j ≡ some b → (get_elem? l j ≡ some b) ⊎ ((j ≡ length l) × (a ≡ b))
  at_snoc_here [] a b zero e = inr (refl, some-injective a b e)
  at_snoc_here [] a b (suc j) e = absurd (some-ne-none b (sym e))
  at_snoc_here (x ∷ xs) a b zero e = inl e
  at_snoc_here (x ∷ xs) a b (suc j) e = ⊎_elim inl (λ t. inr (ap suc t.0, t.1)) (at_snoc_here xs a b j e)

  pub at_inside : (l : List A) (j : ℕ) (a : A) → get_elem? l j ≡ some a → j < length l
  at_inside [] j a e = absurd (some-ne-none a (sym e))
  at_inside (x ∷ xs) zero a e = omega arith
  at_inside (x ∷ xs) (suc j) a e = let h = at_inside xs j a e in omega arith

  pub all_goes : (P Q : A → Type 0) → ((a : A) → P a → Q a) → (l : List A) → All P l → All Q l
  all_goes P Q f l h k d lt = f (get_or l k d) (h k d lt)

  pub all_both : (P Q R : A → Type 0) → ((a : A) → P a → Q a → R a) → (l : List A) → All P l → All Q l → All R l
  all_both P Q R f l h g k d lt = f (get_or l k d) (h k d lt) (g k d lt)

  pub all_one : (P : A → Type 0) (a : A) → P a → All P (a ∷ [])
  all_one P a h = All-cons P a [] h (All-nil P)

  pub only_one : (P : A → Type 0) (a : A) → All P (a ∷ []) → P a
  only_one P a h = All-head P a [] h

  module _ (P : ℕ → A → Type 0) where
    -- P at each place of a list in which one item changes
    pub all_set : (l : List A) (i : ℕ) (w : A) → P i w → ((j : ℕ) (u : A) → j ≢ i → get_elem? l j ≡ some u → P j u) → (j : ℕ) (u : A) → get_elem? (set l i w) j ≡ some u → P j u
    all_set l i w mine others j u e = ⊎_elim (λ (t : (j ≡ i) × (w ≡ u)). subst (λ (x : ℕ × A). P x.0 x.1) (λ k. (sym t.0 k, t.1 k)) mine)
        (λ (t : (j ≢ i) × (get_elem? l j ≡ some u)). others j u t.0 t.1) (at_set l i j w u e)

    -- P at each place of a list that one item is put behind
    pub all_snoc : (l : List A) (a : A) → P (length l) a → ((j : ℕ) (u : A) → get_elem? l j ≡ some u → P j u) → (j : ℕ) (u : A) → get_elem? (l ++ a ∷ []) j ≡ some u → P j u
    all_snoc l a last others j u e = ⊎_elim (λ (t : get_elem? l j ≡ some u). others j u t)
        (λ (t : (j ≡ length l) × (a ≡ u)). subst (λ (x : ℕ × A). P x.0 x.1) (λ k. (sym t.0 k, t.1 k)) last) (at_snoc_here l a u j e)
