-- The equations of folds over expressions and conditions, one for each variant.
use Rattle.std.proofs.Common.{◌≡◌, ℕ, Bool, ◌&&◌, ◌||◌, List, [], ◌∷◌, map, refl, sym, ap, ◌∙◌}
use Rattle.std.specs.List.{list_all, list_any}
use Rattle.num_ends.specs.Decimal.{Decimal}
use Rattle.pddl_terms.specs.declared.names.Arg.{Arg}
use Rattle.pddl_terms.specs.declared.names.Atom.{Atom}
use Rattle.pddl_terms.specs.declared.expressions.Op.{Op}
use Rattle.pddl_terms.specs.declared.expressions.Expr.{Expr, Expr-F, fold-Expr, fold-roll-Expr}
use Rattle.pddl_terms.specs.declared.expressions.Expr.TheVariants as e
use Rattle.pddl_terms.specs.declared.conditions.Rel.{Rel}
use Rattle.pddl_terms.specs.declared.conditions.Cond.{Cond, Cond-F, fold-Cond, fold-roll-Cond}
use Rattle.pddl_terms.specs.declared.conditions.Cond.TheVariants as c

-- a test of a list of answers, where each answer is that of an item
pub list_all-map : {X : Type 0} (test : X → Bool) → (xs : List X) → list_all (λ b. b) (map test xs) ≡ list_all test xs
list_all-map test [] = refl
list_all-map test (x ∷ xs) = ap (λ (b : Bool). test x && b) (list_all-map test xs)

pub list_any-map : {X : Type 0} (test : X → Bool) → (xs : List X) → list_any (λ b. b) (map test xs) ≡ list_any test xs
list_any-map test [] = refl
list_any-map test (x ∷ xs) = ap (λ (b : Bool). test x || b) (list_any-map test xs)

module _ {A : Type 0} (layer : Expr-F A → A) where
  pub fold-Lit : (d : Decimal) (at : ℕ) → fold-Expr A layer (e.Lit d at) ≡ layer (Expr-F.Lit d at)
  fold-Lit d at = ap (fold-Expr A layer) (sym (e.rolls-Lit d at)) ∙ fold-roll-Expr A layer (Expr-F.Lit d at)

  pub fold-Read : (a : Atom) → fold-Expr A layer (e.Read a) ≡ layer (Expr-F.Read a)
  fold-Read a = ap (fold-Expr A layer) (sym (e.rolls-Read a)) ∙ fold-roll-Expr A layer (Expr-F.Read a)

  pub fold-Op : (at : ℕ) (o : Op) (x y : Expr) → fold-Expr A layer (e.Op at o x y) ≡ layer (Expr-F.Op at o (fold-Expr A layer x) (fold-Expr A layer y))
  fold-Op at o x y = ap (fold-Expr A layer) (sym (e.rolls-Op at o x y)) ∙ fold-roll-Expr A layer (Expr-F.Op at o x y)

module _ {A : Type 0} (layer : Cond-F A → A) where
  pub fold-And : (cs : List Cond) → fold-Cond A layer (c.And cs) ≡ layer (Cond-F.And (map (fold-Cond A layer) cs))
  fold-And cs = ap (fold-Cond A layer) (sym (c.rolls-And cs)) ∙ fold-roll-Cond A layer (Cond-F.And cs)

  pub fold-Or : (cs : List Cond) → fold-Cond A layer (c.Or cs) ≡ layer (Cond-F.Or (map (fold-Cond A layer) cs))
  fold-Or cs = ap (fold-Cond A layer) (sym (c.rolls-Or cs)) ∙ fold-roll-Cond A layer (Cond-F.Or cs)

  pub fold-Not : (b : Cond) → fold-Cond A layer (c.Not b) ≡ layer (Cond-F.Not (fold-Cond A layer b))
  fold-Not b = ap (fold-Cond A layer) (sym (c.rolls-Not b)) ∙ fold-roll-Cond A layer (Cond-F.Not b)

  pub fold-Imply : (a b : Cond) → fold-Cond A layer (c.Imply a b) ≡ layer (Cond-F.Imply (fold-Cond A layer a) (fold-Cond A layer b))
  fold-Imply a b = ap (fold-Cond A layer) (sym (c.rolls-Imply a b)) ∙ fold-roll-Cond A layer (Cond-F.Imply a b)

  pub fold-Fact : (a : Atom) → fold-Cond A layer (c.Fact a) ≡ layer (Cond-F.Fact a)
  fold-Fact a = ap (fold-Cond A layer) (sym (c.rolls-Fact a)) ∙ fold-roll-Cond A layer (Cond-F.Fact a)

  pub fold-Same : (a b : Arg) → fold-Cond A layer (c.Same a b) ≡ layer (Cond-F.Same a b)
  fold-Same a b = ap (fold-Cond A layer) (sym (c.rolls-Same a b)) ∙ fold-roll-Cond A layer (Cond-F.Same a b)

  pub fold-Cmp : (r : Rel) (x y : Expr) → fold-Cond A layer (c.Cmp r x y) ≡ layer (Cond-F.Cmp r x y)
  fold-Cmp r x y = ap (fold-Cond A layer) (sym (c.rolls-Cmp r x y)) ∙ fold-roll-Cond A layer (Cond-F.Cmp r x y)
