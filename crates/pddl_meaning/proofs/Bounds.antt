-- What has a value within the range has the same value without bounds.
use Rattle.std.proofs.Common.{◌≡◌, ◌&&◌, ℕ, Bool, true, false, List, [], ◌∷◌, Option, Some, None, refl, sym, ap, subst, ◌∙◌, cond, is_some}
use Rattle.std.specs.Prelude.{fold, option_map}
use Rattle.std.specs.Option.{option_and_then}
use Rattle.std.specs.List.{list_all}
use Rattle.std.specs.FinMap as finite
use Rattle.num_ends.specs.Decimal.{Decimal, difference_of, origin, product_of, sum_of, trimmed}
use Rattle.pddl_terms.specs.declared.names.Atom.{Atom}
use Rattle.pddl_terms.specs.declared.names.Typed.{Typed}
use Rattle.pddl_terms.specs.declared.actions.Assign.{Assign}
use Rattle.pddl_terms.specs.declared.actions.Assign.TheVariants as how
use Rattle.pddl_terms.specs.declared.expressions.Op.{Op}
use Rattle.pddl_terms.specs.declared.expressions.Op.TheVariants as op
use Rattle.pddl_terms.specs.declared.expressions.Expr.{Expr, Expr-F}
use Rattle.pddl_terms.specs.declared.expressions.Expr.TheVariants as expr
use Rattle.pddl_meaning.specs.Worlds.{WorldValue}
use Rattle.num_ends.specs.Range.{where_fits}
use Rattle.pddl_meaning.specs.Values.{combined, exactly, in_bounds, inverse_of, ranged_product, value_by, value_layer}
use Rattle.pddl_meaning.specs.Effects.{NumericEffect, are_effects_valued, changed_value, effects_on, first_part, further_part, joined_sum, next_value, value_after}
use Rattle.pddl_terms.proofs.Induction.{induct_expression}
use Rattle.pddl_meaning.proofs.Folds.{fold-Lit, fold-Read, fold-Op}

-- the second has each value that the first has
abbrev pub Bounded : Option Decimal → Option Decimal → Type 0
Bounded x y = (d : Decimal) → x ≡ Some d → y ≡ Some d

fitting : (fits : Bool) (x : Decimal) → Bounded (where_fits fits x) (Some x)
fitting true x d h = h
fitting false x d h = cc

quotient_bounded : (a : Decimal) (inverse : Option Decimal) → Bounded (option_and_then (ranged_product a) inverse) (option_map (λ e. trimmed (product_of a e)) inverse)
quotient_bounded a None d h = cc
quotient_bounded a (Some e) d h = fitting _ (trimmed (product_of a e)) d h

pub operation_bounded : (o : Op) (a b : Decimal) → Bounded (in_bounds o a b) (exactly o a b)
unfolding in_bounds exactly
operation_bounded op.Add a b d h = fitting _ (trimmed (sum_of a b)) d h
operation_bounded op.Sub a b d h = fitting _ (trimmed (difference_of a b)) d h
operation_bounded op.Mul a b d h = fitting _ (trimmed (product_of a b)) d h
operation_bounded op.Div a b d h = quotient_bounded a (inverse_of b) d h

pub combined_bounded : (o : Op) (x y u v : Option Decimal) → Bounded x u → Bounded y v → Bounded (combined in_bounds o x y) (combined exactly o u v)
combined_bounded o None y u v f g d h = cc
combined_bounded o (Some a) None u v f g d h = cc
combined_bounded o (Some a) (Some b) u v f g d h =
    ap (λ (x : Option Decimal). combined exactly o x v) (f a refl) ∙ ap (λ (y : Option Decimal). combined exactly o (Some a) y) (g b refl) ∙ operation_bounded o a b d h

module _ (params : List Typed) (args : List (List ℕ)) (w : WorldValue) where
  abbrev IsBounded : Expr → Type 0
  IsBounded e = Bounded (value_by in_bounds params args w e) (value_by exactly params args w e)

  pub value_bounded : (e : Expr) → Bounded (value_by in_bounds params args w e) (value_by exactly params args w e)
  unfolding value_by
  value_bounded = induct_expression IsBounded literal read operation
    where
      literal : (l : Decimal) (at : ℕ) → IsBounded (expr.Lit l at)
      literal l at d h = fold-Lit (value_layer exactly params args w) l at ∙ (sym (fold-Lit (value_layer in_bounds params args w) l at) ∙ h)

      read : (a : Atom) → IsBounded (expr.Read a)
      read a d h = fold-Read (value_layer exactly params args w) a ∙ (sym (fold-Read (value_layer in_bounds params args w) a) ∙ h)

      operation : (at : ℕ) (o : Op) (x y : Expr) → IsBounded x → IsBounded y → IsBounded (expr.Op at o x y)
      operation at o x y f g d h =
          fold-Op (value_layer exactly params args w) at o x y
          ∙ combined_bounded o (value_by in_bounds params args w x) (value_by in_bounds params args w y) (value_by exactly params args w x) (value_by exactly params args w y) f g d
          (sym (fold-Op (value_layer in_bounds params args w) at o x y) ∙ h)

  -- ---- new values

  first_bounded : (how : Assign) (x u : Option Decimal) → Bounded x u → Bounded (first_part in_bounds how x) (first_part exactly how u)
  first_bounded how.Set x u f = f
  first_bounded how.Up x u f = f
  first_bounded how.Down x u f = combined_bounded op.Sub (Some origin) x (Some origin) u (λ d h. h) f
  first_bounded how.Scale x u f = f

  further_bounded : (how : Assign) (s x t u : Option Decimal) → Bounded s t → Bounded x u → Bounded (further_part in_bounds how s x) (further_part exactly how t u)
  further_bounded how.Set s x t u f g = combined_bounded op.Add s x t u f g
  further_bounded how.Up s x t u f g = combined_bounded op.Add s x t u f g
  further_bounded how.Down s x t u f g = combined_bounded op.Sub s x t u f g
  further_bounded how.Scale s x t u f g = combined_bounded op.Add s x t u f g

  sum_bounded : (s t : Option Decimal) (cs : List NumericEffect) → Bounded s t
      → Bounded (fold (λ sum d. further_part in_bounds d.how sum (value_by in_bounds params args w d.by)) s cs) (fold (λ sum d. further_part exactly d.how sum (value_by exactly params args w d.by)) t cs)
  sum_bounded s t [] f = f
  sum_bounded s t (c ∷ cs) f =
      sum_bounded (further_part in_bounds c.how s (value_by in_bounds params args w c.by)) (further_part exactly c.how t (value_by exactly params args w c.by)) cs
      (further_bounded c.how s (value_by in_bounds params args w c.by) t (value_by exactly params args w c.by) f (value_bounded c.by))

  after_bounded : (how : Assign) (old x s u t : Option Decimal) → Bounded x u → Bounded s t → Bounded (value_after in_bounds how old x s) (value_after exactly how old u t)
  after_bounded how.Set old x s u t f g = f
  after_bounded how.Up old x s u t f g = combined_bounded op.Add old s old t (λ d h. h) g
  after_bounded how.Down old x s u t f g = combined_bounded op.Add old s old t (λ d h. h) g
  after_bounded how.Scale old x s u t f g = combined_bounded op.Mul old x old u (λ d h. h) f

  changed_bounded : (fluent : List ℕ) (cs : List NumericEffect) → Bounded (changed_value in_bounds params args w fluent cs) (changed_value exactly params args w fluent cs)
  changed_bounded fluent [] = λ d h. h
  changed_bounded fluent (c ∷ cs) =
      after_bounded c.how (finite.get w.values fluent) (value_by in_bounds params args w c.by) (joined_sum in_bounds params args w c cs) (value_by exactly params args w c.by) (joined_sum exactly params args w c cs)
      (value_bounded c.by)
      (sum_bounded (first_part in_bounds c.how (value_by in_bounds params args w c.by)) (first_part exactly c.how (value_by exactly params args w c.by)) cs
      (first_bounded c.how (value_by in_bounds params args w c.by) (value_by exactly params args w c.by) (value_bounded c.by)))

  pub next_bounded : (changes : List NumericEffect) (fluent : List ℕ) → Bounded (next_value in_bounds params args w changes fluent) (next_value exactly params args w changes fluent)
  next_bounded changes fluent = changed_bounded fluent (effects_on fluent changes)

-- ---- tests of values

pub bounded_some : (x y : Option Decimal) → Bounded x y → is_some x ≡ true → is_some y ≡ true
bounded_some None y f h = cc
bounded_some (Some d) y f h = ap is_some (f d refl)

pub both_true : (a b : Bool) → (a && b) ≡ true → (a ≡ true) × (b ≡ true)
both_true true b h = (refl, h)
both_true false b h = cc

pub true_both : (a b : Bool) → a ≡ true → b ≡ true → (a && b) ≡ true
true_both a b e f = ap (λ (x : Bool). x && b) e ∙ f

pub all_of_all : {X : Type 0} (p q : X → Bool) → ((x : X) → p x ≡ true → q x ≡ true) → (xs : List X) → list_all p xs ≡ true → list_all q xs ≡ true
all_of_all p q each [] h = refl
all_of_all p q each (x ∷ xs) h = let parts = both_true (p x) (list_all p xs) h in true_both (q x) (list_all q xs) (each x parts.0) (all_of_all p q each xs parts.1)

-- where each changed fluent has a value within the range afterwards, each has one
pub effects_valued : (params : List Typed) (args : List (List ℕ)) (w : WorldValue) (changes : List NumericEffect)
    → are_effects_valued in_bounds params args w changes ≡ true → are_effects_valued exactly params args w changes ≡ true
unfolding are_effects_valued
effects_valued params args w changes h =
    all_of_all (λ c. is_some (next_value in_bounds params args w changes c.fluent)) (λ c. is_some (next_value exactly params args w changes c.fluent))
    (λ c. bounded_some (next_value in_bounds params args w changes c.fluent) (next_value exactly params args w changes c.fluent) (next_bounded params args w changes c.fluent)) changes h
