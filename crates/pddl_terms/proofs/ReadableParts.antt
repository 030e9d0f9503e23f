-- An expression and a condition are readable where their parts are.
use Rattle.std.proofs.Common.{◌≡◌, ◌&&◌, ℕ, Bool, true, List, [], ◌∷◌, map, refl, sym, ap, ◌∙◌}
use Rattle.std.specs.List.{list_all}
use Rattle.num_ends.specs.Decimal.{Decimal}
use Rattle.pddl_terms.specs.declared.names.Arg.{Arg}
use Rattle.pddl_terms.specs.declared.names.Atom.{Atom}
use Rattle.pddl_terms.specs.declared.expressions.Op.{Op}
use Rattle.pddl_terms.specs.declared.expressions.Expr.{Expr, Expr-F, fold-Expr, fold-roll-Expr}
use Rattle.pddl_terms.specs.declared.expressions.Expr.TheVariants as expr
use Rattle.pddl_terms.specs.declared.conditions.Rel.{Rel}
use Rattle.pddl_terms.specs.declared.conditions.Cond.{Cond, Cond-F, fold-Cond, fold-roll-Cond}
use Rattle.pddl_terms.specs.declared.conditions.Cond.TheVariants as condition
use Rattle.pddl_terms.specs.Readable.{is_readable_argument, is_readable_atom, is_readable_condition, is_readable_expression, readable_condition_layer, readable_expression_layer}

pub readable-Lit : (d : Decimal) (at : ℕ) → is_readable_expression (expr.Lit d at) ≡ true
unfolding is_readable_expression
readable-Lit d at = ap (fold-Expr Bool readable_expression_layer) (sym (expr.rolls-Lit d at)) ∙ fold-roll-Expr Bool readable_expression_layer (Expr-F.Lit d at)

pub readable-Read : (a : Atom) → is_readable_expression (expr.Read a) ≡ is_readable_atom a
unfolding is_readable_expression
readable-Read a = ap (fold-Expr Bool readable_expression_layer) (sym (expr.rolls-Read a)) ∙ fold-roll-Expr Bool readable_expression_layer (Expr-F.Read a)

pub readable-Op : (at : ℕ) (o : Op) (x y : Expr) → is_readable_expression (expr.Op at o x y) ≡ (is_readable_expression x && is_readable_expression y)
unfolding is_readable_expression
readable-Op at o x y = ap (fold-Expr Bool readable_expression_layer) (sym (expr.rolls-Op at o x y)) ∙ fold-roll-Expr Bool readable_expression_layer (Expr-F.Op at o x y)

all_of_map : {X : Type 0} (test : X → Bool) (xs : List X) → list_all (λ (b : Bool). b) (map test xs) ≡ list_all test xs
all_of_map test [] = refl
all_of_map test (x ∷ xs) = ap (λ (b : Bool). test x && b) (all_of_map test xs)

folded-And : (cs : List Cond) → is_readable_condition (condition.And cs) ≡ list_all (λ (b : Bool). b) (map is_readable_condition cs)
unfolding is_readable_condition
folded-And cs = ap (fold-Cond Bool readable_condition_layer) (sym (condition.rolls-And cs)) ∙ fold-roll-Cond Bool readable_condition_layer (Cond-F.And cs)

pub readable-And : (cs : List Cond) → is_readable_condition (condition.And cs) ≡ list_all is_readable_condition cs
readable-And cs = folded-And cs ∙ all_of_map is_readable_condition cs

folded-Or : (cs : List Cond) → is_readable_condition (condition.Or cs) ≡ list_all (λ (b : Bool). b) (map is_readable_condition cs)
unfolding is_readable_condition
folded-Or cs = ap (fold-Cond Bool readable_condition_layer) (sym (condition.rolls-Or cs)) ∙ fold-roll-Cond Bool readable_condition_layer (Cond-F.Or cs)

pub readable-Or : (cs : List Cond) → is_readable_condition (condition.Or cs) ≡ list_all is_readable_condition cs
readable-Or cs = folded-Or cs ∙ all_of_map is_readable_condition cs

pub readable-Not : (c : Cond) → is_readable_condition (condition.Not c) ≡ is_readable_condition c
unfolding is_readable_condition
readable-Not c = ap (fold-Cond Bool readable_condition_layer) (sym (condition.rolls-Not c)) ∙ fold-roll-Cond Bool readable_condition_layer (Cond-F.Not c)

pub readable-Imply : (b c : Cond) → is_readable_condition (condition.Imply b c) ≡ (is_readable_condition b && is_readable_condition c)
unfolding is_readable_condition
readable-Imply b c = ap (fold-Cond Bool readable_condition_layer) (sym (condition.rolls-Imply b c)) ∙ fold-roll-Cond Bool readable_condition_layer (Cond-F.Imply b c)

pub readable-Fact : (a : Atom) → is_readable_condition (condition.Fact a) ≡ is_readable_atom a
unfolding is_readable_condition
readable-Fact a = ap (fold-Cond Bool readable_condition_layer) (sym (condition.rolls-Fact a)) ∙ fold-roll-Cond Bool readable_condition_layer (Cond-F.Fact a)

pub readable-Same : (a b : Arg) → is_readable_condition (condition.Same a b) ≡ (is_readable_argument a && is_readable_argument b)
unfolding is_readable_condition
readable-Same a b = ap (fold-Cond Bool readable_condition_layer) (sym (condition.rolls-Same a b)) ∙ fold-roll-Cond Bool readable_condition_layer (Cond-F.Same a b)

pub readable-Cmp : (r : Rel) (e f : Expr) → is_readable_condition (condition.Cmp r e f) ≡ (is_readable_expression e && is_readable_expression f)
unfolding is_readable_condition
readable-Cmp r e f = ap (fold-Cond Bool readable_condition_layer) (sym (condition.rolls-Cmp r e f)) ∙ fold-roll-Cond Bool readable_condition_layer (Cond-F.Cmp r e f)
