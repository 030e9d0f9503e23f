-- Lists that change at one place or grow by one.
use Rattle.std.proofs.Common.{◌≡◌, ◌≢◌, ◌⊎◌, ℕ, zero, suc, ◌+◌, ◌*◌, ◌<◌, ◌≤◌, List, [], ◌∷◌, ◌++◌, length, get_or, set, sym, refl, ap, ◌∙◌, subst, inl, inr, arith, Bool, true, false, ◌||◌, get_or-set_same, get_or-set_other}
use Rattle.std.proofs.lemmas.List.{get_or_append_left, get_or_push, length_push}
use mathlib.Core.Logic.{dite}
use mathlib.Core.Option.{some, some-injective, some-ne-none}
use native.Mathlib.Decide.{ℕ_discrete, dec_lt}
use lib.ListN.{get_elem?}
use Rattle.bound_words.specs.declared.view.View.{View}
use Rattle.bound_words.specs.Protocol.{total}

-- what holds of the new value and of the others holds at each place
pub set_cases : (P : ℕ → ℕ → Type 0) (l : List ℕ) (i y : ℕ) → i < length l → P i y → ((w : ℕ) → w ≢ i → P w (get_or l w 0)) → (w : ℕ) → P w (get_or (set l i y) w 0)
set_cases P l i y h here others w = dite (ℕ_discrete w i)
    (λ e. subst (λ (z : ℕ). P z (get_or (set l i y) z 0)) (sym e) (subst (P i) (sym (get_or-set_same l i y 0 h)) here))
    (λ ne. subst (P w) (sym (get_or-set_other l i w y 0 ne)) (others w ne))

pub push_cases : (P : ℕ → ℕ → Type 0) (l : List ℕ) (y : ℕ) → P (length l) y → ((w : ℕ) → w < length l → P w (get_or l w 0)) → (w : ℕ) → w < length (l ++ y ∷ []) → P w (get_or (l ++ y ∷ []) w 0)
push_cases P l y last others w h = dite (dec_lt w (length l))
    (λ lt. subst (P w) (sym (get_or_append_left l (y ∷ []) 0 w lt)) (others w lt))
    (λ not. let e : length l ≡ w = omega (arith, length_push l y) in subst (P w) (sym (get_or_push l y 0 w e)) (subst (λ (z : ℕ). P z y) e last))

pub read_row : (words : List ℕ) (d b : ℕ) (row : List ℕ) (w : ℕ) → words ≡ d ∷ b ∷ row → get_or words (w + 2) 0 ≡ get_or row w 0
read_row words d b row w e = let n : w + 2 ≡ suc (suc w) = omega arith in ap (λ (l : List ℕ). get_or l (w + 2) 0) e ∙ ap (λ (i : ℕ). get_or (d ∷ b ∷ row) i 0) n

pub write_row : (words : List ℕ) (d b : ℕ) (row : List ℕ) (w y : ℕ) → words ≡ d ∷ b ∷ row → set words (w + 2) y ≡ d ∷ b ∷ set row w y
write_row words d b row w y e = let n : w + 2 ≡ suc (suc w) = omega arith in ap (λ (l : List ℕ). set l (w + 2) y) e ∙ ap (λ (i : ℕ). set (d ∷ b ∷ row) i y) n

module _ (f : View → ℕ) where
  pub total-append : (l m : List View) → total f (l ++ m) ≡ total f l + total f m
  total-append [] m = omega arith
  total-append (x ∷ xs) m = omega (arith, total-append xs m)

  pub total-set : (l : List View) (j : ℕ) (v w : View) → get_elem? l j ≡ some v → total f (set l j w) + f v ≡ total f l + f w
  total-set [] j v w e = absurd (some-ne-none v (sym e))
  total-set (x ∷ xs) zero v w e = omega (arith, ap f (some-injective x v e))
  total-set (x ∷ xs) (suc j) v w e = omega (arith, total-set xs j v w e)

  pub term_le : (l : List View) (j : ℕ) (v : View) → get_elem? l j ≡ some v → f v ≤ total f l
  term_le [] j v e = absurd (some-ne-none v (sym e))
  term_le (x ∷ xs) zero v e = omega (arith, ap f (some-injective x v e))
  term_le (x ∷ xs) (suc j) v e = omega (arith, term_le xs j v e)

  -- a bound on each term, by 2^58 times another, is one on the sums
  pub total_within : (g : View → ℕ) (l : List View) → ((j : ℕ) (u : View) → get_elem? l j ≡ some u → f u ≤ 288230376151711744 * g u) → total f l ≤ 288230376151711744 * total g l
  total_within g [] each = omega arith
  total_within g (x ∷ xs) each = let a = each 0 x refl in let b = total_within g xs (λ j u at. each (suc j) u at) in omega arith

  pub none_left : (g : View → ℕ) (l : List View) → total g l ≡ 0 → ((j : ℕ) (u : View) → get_elem? l j ≡ some u → g u ≡ 0 → f u ≡ 0) → total f l ≡ 0
  none_left g [] e each = refl
  none_left g (x ∷ xs) e each = let a = each 0 x refl (omega arith) in let b = none_left g xs (omega arith) (λ j u at. each (suc j) u at) in omega arith

  -- where one view has all of g, it has all of f, if what has none of g has none of f
  pub alone : (g : View → ℕ) (l : List View) (j : ℕ) (v : View) → get_elem? l j ≡ some v → total g l ≡ g v → ((j : ℕ) (u : View) → get_elem? l j ≡ some u → g u ≡ 0 → f u ≡ 0) → total f l ≡ f v
  alone g [] j v e all each = absurd (some-ne-none v (sym e))
  alone g (x ∷ xs) zero v e all each = let same = some-injective x v e in let p = ap f same in let q = ap g same in
      let b = none_left g xs (omega arith) (λ j u at. each (suc j) u at) in omega arith
  alone g (x ∷ xs) (suc j) v e all each = let le = alone_le g xs j v e in let a = each 0 x refl (omega arith) in
      let b = alone g xs j v e (omega arith) (λ j u at. each (suc j) u at) in omega arith
    where
      alone_le : (g : View → ℕ) (l : List View) (j : ℕ) (v : View) → get_elem? l j ≡ some v → g v ≤ total g l
      alone_le g [] j v e = absurd (some-ne-none v (sym e))
      alone_le g (x ∷ xs) zero v e = omega (arith, ap g (some-injective x v e))
      alone_le g (x ∷ xs) (suc j) v e = omega (arith, alone_le g xs j v e)

pub or_cases : (a b : Bool) → (a || b) ≡ true → (a ≡ true) ⊎ (b ≡ true)
or_cases true b e = inl refl
or_cases false b e = inr e
