-- Sums over the views of a table.
use Rattle.std.proofs.Common.{◌≡◌, ℕ, zero, suc, ◌+◌, ◌*◌, ◌≤◌, List, [], ◌∷◌, ◌++◌, set, sym, refl, ap, arith}
use mathlib.Core.Option.{some, some-injective, some-ne-none}
use lib.ListN.{get_elem?}
use Rattle.word_rows.specs.declared.view.View.{View}
use Rattle.word_rows.specs.Rule.{total}

module _ (f : View → ℕ) where
  pub total-append : (l m : List View) → total f (l ++ m) ≡ total f l + total f m
  total-append [] m = omega arith
  total-append (x ∷ xs) m = omega (arith, total-append xs m)

  pub total-set : (l : List View) (j : ℕ) (v w : View) → get_elem? l j ≡ some v → total f (set l j w) + f v ≡ total f l + f w
  total-set [] j v w e = absurd (some-ne-none v (sym e))
  total-set (x ∷ xs) zero v w e = omega (arith, ap f (some-injective x v e))
  total-set (x ∷ xs) (suc j) v w e = omega (arith, total-set xs j v w e)

  -- a bound on each term, by 2^32 times another, is one on the sums
  pub total_within : (g : View → ℕ) (l : List View) → ((j : ℕ) (u : View) → get_elem? l j ≡ some u → f u ≤ 4294967296 * g u) → total f l ≤ 4294967296 * total g l
  total_within g [] each = omega arith
  total_within g (x ∷ xs) each = let a = each 0 x refl in let b = total_within g xs (λ j u at. each (suc j) u at) in omega arith
