-- Which fluents an expression reads, one equation for each variant.
use Rattle.std.proofs.Common.{◌≡◌, ℕ, ◌||◌, ◌++◌, Bool, true, false, List, [], ◌∷◌, refl, sym, ap, ◌∙◌}
use Rattle.std.specs.List.{list_any}
use Rattle.num_ends.specs.Decimal.{Decimal}
use Rattle.ground_task.proofs.Trees.{fold-Const, fold-Read, fold-Add, fold-Sub, fold-Mul}
use Rattle.ground_task.specs.declared.raw.GExpr.{GExpr}
use Rattle.ground_task.specs.declared.raw.GExpr.TheVariants as e
use Rattle.ground_task.specs.declared.raw.Ground.{Ground}
use Rattle.subgoal.specs.Help.{changes, reads_layer, reads_of}

or_none : (b : Bool) → b || false ≡ b
or_none true = refl
or_none false = refl

or_order : (a b c : Bool) → (a || b) || c ≡ a || (b || c)
or_order true b c = refl
or_order false b c = refl

any_both : (test : ℕ → Bool) (xs ys : List ℕ) → list_any test (xs ++ ys) ≡ list_any test xs || list_any test ys
any_both test [] ys = refl
any_both test (x ∷ xs) ys = ap (λ (b : Bool). test x || b) (any_both test xs ys) ∙ sym (or_order (test x) (list_any test xs) (list_any test ys))

module _ (a : Ground) where
  pub changes_Const : (d : Decimal) → list_any (changes a) (reads_of (e.Const d)) ≡ false
  unfolding reads_of
  changes_Const d = ap (list_any (changes a)) (fold-Const reads_layer d)

  pub changes_Read : (x : ℕ) → list_any (changes a) (reads_of (e.Read x)) ≡ changes a x
  unfolding reads_of
  changes_Read x = ap (list_any (changes a)) (fold-Read reads_layer x) ∙ or_none (changes a x)

  pub changes_Add : (l r : GExpr) → list_any (changes a) (reads_of (e.Add l r)) ≡ list_any (changes a) (reads_of l) || list_any (changes a) (reads_of r)
  unfolding reads_of
  changes_Add l r = ap (list_any (changes a)) (fold-Add reads_layer l r) ∙ any_both (changes a) (reads_of l) (reads_of r)

  pub changes_Sub : (l r : GExpr) → list_any (changes a) (reads_of (e.Sub l r)) ≡ list_any (changes a) (reads_of l) || list_any (changes a) (reads_of r)
  unfolding reads_of
  changes_Sub l r = ap (list_any (changes a)) (fold-Sub reads_layer l r) ∙ any_both (changes a) (reads_of l) (reads_of r)

  pub changes_Mul : (l r : GExpr) → list_any (changes a) (reads_of (e.Mul l r)) ≡ list_any (changes a) (reads_of l) || list_any (changes a) (reads_of r)
  unfolding reads_of
  changes_Mul l r = ap (list_any (changes a)) (fold-Mul reads_layer l r) ∙ any_both (changes a) (reads_of l) (reads_of r)
