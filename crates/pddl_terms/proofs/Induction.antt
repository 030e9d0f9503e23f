-- What holds of each expression and of each condition, from what holds of their parts.
use Rattle.std.proofs.Common.{ℕ, List, [], ◌∷◌, map, All, sym, subst}
use Rattle.std.proofs.lemmas.List.Elements.{All-nil, All-cons}
use Rattle.num_ends.specs.Decimal.{Decimal}
use Rattle.pddl_terms.specs.declared.names.Arg.{Arg}
use Rattle.pddl_terms.specs.declared.names.Atom.{Atom}
use Rattle.pddl_terms.specs.declared.expressions.Op.{Op}
use Rattle.pddl_terms.specs.declared.expressions.Expr.{Expr, Expr-F, ind-Expr, map-Expr, roll-Expr}
use Rattle.pddl_terms.specs.declared.expressions.Expr.TheVariants as expr
use Rattle.pddl_terms.specs.declared.conditions.Rel.{Rel}
use Rattle.pddl_terms.specs.declared.conditions.Cond.{Cond, Cond-F, ind-Cond, map-Cond, roll-Cond}
use Rattle.pddl_terms.specs.declared.conditions.Cond.TheVariants as condition

-- ---- expressions

induct_expression_layer : (P : Expr → Type 0) → ((d : Decimal) (at : ℕ) → P (expr.Lit d at)) → ((a : Atom) → P (expr.Read a)) → ((at : ℕ) (o : Op) (x y : Expr) → P x → P y → P (expr.Op at o x y))
    → (z : Expr-F ((x : Expr) × P x)) → P (roll-Expr (map-Expr _ _ (λ e. e.0) z))
induct_expression_layer P lit read operation (Expr-F.Lit d at) = subst P (sym (expr.rolls-Lit d at)) (lit d at)
induct_expression_layer P lit read operation (Expr-F.Read a) = subst P (sym (expr.rolls-Read a)) (read a)
induct_expression_layer P lit read operation (Expr-F.Op at o x y) = subst P (sym (expr.rolls-Op at o x.0 y.0)) (operation at o x.0 y.0 x.1 y.1)

pub induct_expression : (P : Expr → Type 0) → ((d : Decimal) (at : ℕ) → P (expr.Lit d at)) → ((a : Atom) → P (expr.Read a)) → ((at : ℕ) (o : Op) (x y : Expr) → P x → P y → P (expr.Op at o x y))
    → (x : Expr) → P x
induct_expression P lit read operation =
    ind-Expr P (λ x y is. subst (λ (z : Expr-F Expr). P (roll-Expr z)) is (induct_expression_layer P lit read operation y))

-- ---- conditions

All-beside : {X : Type 0} (P : X → Type 0) → (es : List ((x : X) × P x)) → All P (map (λ e. e.0) es)
All-beside P [] = All-nil P
All-beside P (e ∷ es) = All-cons P e.0 (map (λ e. e.0) es) e.1 (All-beside P es)

-- what holds of a condition where it holds of its parts
pub record Inductive (P : Cond → Type 0) : Type 0 where
  pub conjunction : (cs : List Cond) → All P cs → P (condition.And cs)
  pub disjunction : (cs : List Cond) → All P cs → P (condition.Or cs)
  pub negation : (c : Cond) → P c → P (condition.Not c)
  pub implication : (b c : Cond) → P b → P c → P (condition.Imply b c)
  pub fact : (a : Atom) → P (condition.Fact a)
  pub equal : (a b : Arg) → P (condition.Same a b)
  pub compare : (r : Rel) (e f : Expr) → P (condition.Cmp r e f)

induct_condition_layer : (P : Cond → Type 0) → Inductive P → (z : Cond-F ((x : Cond) × P x)) → P (roll-Cond (map-Cond _ _ (λ e. e.0) z))
induct_condition_layer P step (Cond-F.And cs) = subst P (sym (condition.rolls-And (map (λ e. e.0) cs))) (step.conjunction (map (λ e. e.0) cs) (All-beside P cs))
induct_condition_layer P step (Cond-F.Or cs) = subst P (sym (condition.rolls-Or (map (λ e. e.0) cs))) (step.disjunction (map (λ e. e.0) cs) (All-beside P cs))
induct_condition_layer P step (Cond-F.Not c) = subst P (sym (condition.rolls-Not c.0)) (step.negation c.0 c.1)
induct_condition_layer P step (Cond-F.Imply b c) = subst P (sym (condition.rolls-Imply b.0 c.0)) (step.implication b.0 c.0 b.1 c.1)
induct_condition_layer P step (Cond-F.Fact a) = subst P (sym (condition.rolls-Fact a)) (step.fact a)
induct_condition_layer P step (Cond-F.Same a b) = subst P (sym (condition.rolls-Same a b)) (step.equal a b)
induct_condition_layer P step (Cond-F.Cmp r e f) = subst P (sym (condition.rolls-Cmp r e f)) (step.compare r e f)

pub induct_condition : (P : Cond → Type 0) → Inductive P → (c : Cond) → P c
induct_condition P step = ind-Cond P (λ x y is. subst (λ (z : Cond-F Cond). P (roll-Cond z)) is (induct_condition_layer P step y))
