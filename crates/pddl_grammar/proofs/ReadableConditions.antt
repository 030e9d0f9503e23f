-- Expressions, conditions and effects that a text spells are readable.
use Rattle.std.proofs.Common.{◌≡◌, ℕ, ◌+◌, ◌≤◌, Bool, true, ◌&&◌, List, [], ◌∷◌, ◌++◌, codes, All, refl, sym, ap, subst, ◌∙◌, arith}
use Rattle.std.specs.List.{list_all}
use Rattle.std.proofs.lemmas.Bool.{and_from, and_parts}
use Rattle.std.proofs.lemmas.List.Elements.{All-append, All-cons, All-nil}
use Rattle.std.proofs.lemmas.List.Folds.{list_all-append}
use Rattle.num_ends.specs.Decimal.{Decimal, origin}
use Rattle.sexp_text.specs.declared.trees.Tree.{Tree}
use Rattle.pddl_terms.specs.declared.names.Arg.{Arg}
use Rattle.pddl_terms.specs.declared.names.Atom.{Atom}
use Rattle.pddl_terms.specs.declared.expressions.Op.{Op}
use Rattle.pddl_terms.specs.declared.expressions.Op.TheVariants as op
use Rattle.pddl_terms.specs.declared.expressions.Expr.{Expr, Expr-F, fold-roll-Expr}
use Rattle.pddl_terms.specs.declared.expressions.Expr.TheVariants as expr
use Rattle.pddl_terms.specs.declared.conditions.Rel.{Rel}
use Rattle.pddl_terms.specs.declared.conditions.Cond.{Cond}
use Rattle.pddl_terms.specs.declared.conditions.Cond.TheVariants as condition
use Rattle.pddl_terms.specs.declared.actions.Effect.{Effect}
use Rattle.pddl_terms.specs.declared.actions.Effect.TheVariants as effect
use Rattle.pddl_terms.specs.Heights.{condition_height, expression_height, expression_layer}
use Rattle.pddl_terms.specs.Readable.{IsReadableEffect, is_readable_argument, is_readable_atom, is_readable_condition, is_readable_expression}
use Rattle.pddl_terms.proofs.ReadableParts.{readable-And, readable-Cmp, readable-Fact, readable-Imply, readable-Lit, readable-Not, readable-Op, readable-Or, readable-Read, readable-Same}
use Rattle.pddl_trees.specs.Leaves.{all_leaves, leaves_of}
use Rattle.pddl_grammar.specs.Expressions.{Groups, SpellsExpr, SpellsExprs}
use Rattle.pddl_grammar.specs.Conditions.{SpellsCond, SpellsConds}
use Rattle.pddl_grammar.specs.Effects.{SpellsEffects, SpellsEffectsOfAll}
use Rattle.pddl_grammar.proofs.SpelledConditions.{low_fact, low_nothing, low_same}
use Rattle.pddl_grammar.proofs.ReadableNames.{argument_readable, atom_readable, begun_clean, first_clean, rest_clean}

-- ---- expressions

joined_readable : (at : ℕ) (o : Op) (x y : Expr) → is_readable_expression x ≡ true → is_readable_expression y ≡ true → is_readable_expression (expr.Op at o x y) ≡ true
joined_readable at o x y hx hy = readable-Op at o x y ∙ and_from (is_readable_expression x) (is_readable_expression y) hx hy

first_of : (x : Expr) (xs : List Expr) → list_all is_readable_expression (x ∷ xs) ≡ true → (is_readable_expression x ≡ true) × (list_all is_readable_expression xs ≡ true)
first_of x xs all = and_parts (is_readable_expression x) (list_all is_readable_expression xs) all

-- operands in front of a last one
last_of : (xs : List Expr) (z : Expr) → list_all is_readable_expression (xs ++ z ∷ []) ≡ true → (list_all is_readable_expression xs ≡ true) × (is_readable_expression z ≡ true)
last_of xs z all =
    let parts = and_parts (list_all is_readable_expression xs) (list_all is_readable_expression (z ∷ [])) (sym (list_all-append is_readable_expression xs (z ∷ [])) ∙ all) in
    (parts.0, (first_of z [] parts.1).0)

grouped_readable : (at : ℕ) (o : Op) (es : List Expr) (e : Expr) → Groups at o es e → list_all is_readable_expression es ≡ true → is_readable_expression e ≡ true
grouped_readable at o es e (Groups.negative x) all = joined_readable at op.Sub (expr.Lit origin at) x (readable-Lit origin at) (first_of x [] all).0
grouped_readable at o es e (Groups.pair p x y) all =
    let first = first_of x (y ∷ []) all in
    joined_readable at p x y first.0 (first_of y [] first.1).0
grouped_readable at o es e (Groups.more p x y z xs f joining g) all =
    let parts = last_of (x ∷ y ∷ xs) z all in
    joined_readable at p f z (grouped_readable at p (x ∷ y ∷ xs) f g parts.0) parts.1

mutual
  pub expression_readable : (text : List ℕ) (t : Tree) (e : Expr) → SpellsExpr text t e → leaves_of text t ≡ [] → is_readable_expression e ≡ true
  expression_readable text t e (SpellsExpr.number u at w d x n is) clean = readable-Lit d at
  expression_readable text t e (SpellsExpr.read u a x) clean = readable-Read a ∙ atom_readable text true u a x clean
  expression_readable text t e (SpellsExpr.operation u at w o ts es f x is operands g h) clean =
      grouped_readable at o es f g (expressions_readable text ts es operands (begun_clean text u at w ts x clean))

  expressions_readable : (text : List ℕ) (ts : List Tree) (es : List Expr) → SpellsExprs text ts es → all_leaves text ts ≡ [] → list_all is_readable_expression es ≡ true
  expressions_readable text ts es SpellsExprs.none clean = refl
  expressions_readable text ts es (SpellsExprs.next t us e fs here later) clean =
      and_from (is_readable_expression e) (list_all is_readable_expression fs)
      (expression_readable text t e here (first_clean text t us clean)) (expressions_readable text us fs later (rest_clean text t us clean))

low_number : (d : Decimal) (at : ℕ) → expression_height (expr.Lit d at) ≤ 400
low_number d at =
    let e = ap expression_height (sym (expr.rolls-Lit d at)) ∙ fold-roll-Expr ℕ expression_layer (Expr-F.Lit d at) in
    omega arith

low_read : (a : Atom) → expression_height (expr.Read a) ≤ 400
low_read a =
    let e = ap expression_height (sym (expr.rolls-Read a)) ∙ fold-roll-Expr ℕ expression_layer (Expr-F.Read a) in
    omega arith

pub expression_low : (text : List ℕ) (t : Tree) (e : Expr) → SpellsExpr text t e → expression_height e ≤ 400
expression_low text t e (SpellsExpr.number u at w d x n is) = low_number d at
expression_low text t e (SpellsExpr.read u a x) = low_read a
expression_low text t e (SpellsExpr.operation u at w o ts es f x is operands g h) = h

-- ---- conditions

pub nothing_readable : is_readable_condition (condition.And []) ≡ true
nothing_readable = readable-And []

mutual
  pub condition_readable : (text : List ℕ) (t : Tree) (c : Cond) → SpellsCond text t c → leaves_of text t ≡ [] → is_readable_condition c ≡ true
  condition_readable text t c (SpellsCond.nothing u at x) clean = nothing_readable
  condition_readable text t c (SpellsCond.conjunction u at ts cs x each low) clean =
      readable-And cs ∙ conditions_readable text ts cs each (begun_clean text u at (codes "and") ts x clean)
  condition_readable text t c (SpellsCond.disjunction u at ts cs x each low) clean =
      readable-Or cs ∙ conditions_readable text ts cs each (begun_clean text u at (codes "or") ts x clean)
  condition_readable text t c (SpellsCond.negation u at v d x inner low) clean =
      readable-Not d ∙ condition_readable text v d inner (first_clean text v [] (begun_clean text u at (codes "not") (v ∷ []) x clean))
  condition_readable text t c (SpellsCond.implication u at v w b d x left right low) clean =
      let parts = begun_clean text u at (codes "imply") (v ∷ w ∷ []) x clean in
      readable-Imply b d ∙ and_from (is_readable_condition b) (is_readable_condition d)
      (condition_readable text v b left (first_clean text v (w ∷ []) parts)) (condition_readable text w d right (first_clean text w [] (rest_clean text v (w ∷ []) parts)))
  condition_readable text t c (SpellsCond.equality u at v w a b x left right) clean =
      let parts = begun_clean text u at (codes "=") (v ∷ w ∷ []) x clean in
      readable-Same a b ∙ and_from (is_readable_argument a) (is_readable_argument b)
      (argument_readable text true v a left (first_clean text v (w ∷ []) parts)) (argument_readable text true w b right (first_clean text w [] (rest_clean text v (w ∷ []) parts)))
  condition_readable text t c (SpellsCond.comparison u at word r v w e f x is left right low) clean =
      let parts = begun_clean text u at word (v ∷ w ∷ []) x clean in
      readable-Cmp r e f ∙ and_from (is_readable_expression e) (is_readable_expression f)
      (expression_readable text v e left (first_clean text v (w ∷ []) parts)) (expression_readable text w f right (first_clean text w [] (rest_clean text v (w ∷ []) parts)))
  condition_readable text t c (SpellsCond.fact u a x) clean = readable-Fact a ∙ atom_readable text true u a x clean

  conditions_readable : (text : List ℕ) (ts : List Tree) (cs : List Cond) → SpellsConds text ts cs → all_leaves text ts ≡ [] → list_all is_readable_condition cs ≡ true
  conditions_readable text ts cs SpellsConds.none clean = refl
  conditions_readable text ts cs (SpellsConds.next t us c ds here later) clean =
      and_from (is_readable_condition c) (list_all is_readable_condition ds)
      (condition_readable text t c here (first_clean text t us clean)) (conditions_readable text us ds later (rest_clean text t us clean))

pub condition_low : (text : List ℕ) (t : Tree) (c : Cond) → SpellsCond text t c → condition_height c ≤ 400
condition_low text t c (SpellsCond.nothing u at x) = low_nothing
condition_low text t c (SpellsCond.conjunction u at ts cs x each low) = low
condition_low text t c (SpellsCond.disjunction u at ts cs x each low) = low
condition_low text t c (SpellsCond.negation u at v d x inner low) = low
condition_low text t c (SpellsCond.implication u at v w b d x left right low) = low
condition_low text t c (SpellsCond.equality u at v w a b x left right) = low_same a b
condition_low text t c (SpellsCond.comparison u at word r v w e f x is left right low) = low
condition_low text t c (SpellsCond.fact u a x) = low_fact a

-- ---- effects

one_readable : (e : Effect) → IsReadableEffect e → All IsReadableEffect (e ∷ [])
one_readable e h = All-cons IsReadableEffect e [] h (All-nil IsReadableEffect)

mutual
  pub effects_readable : (text : List ℕ) (t : Tree) (es : List Effect) → SpellsEffects text t es → leaves_of text t ≡ [] → All IsReadableEffect es
  effects_readable text t es (SpellsEffects.nothing u at x) clean = All-nil IsReadableEffect
  effects_readable text t es (SpellsEffects.conjunction u at ts fs x each) clean = effects_of_all_readable text ts fs each (begun_clean text u at (codes "and") ts x clean)
  effects_readable text t es (SpellsEffects.addition u a x) clean = one_readable (effect.Add a) (atom_readable text true u a x clean)
  effects_readable text t es (SpellsEffects.deletion u at v a x inner) clean =
      one_readable (effect.Del a) (atom_readable text true v a inner (first_clean text v [] (begun_clean text u at (codes "not") (v ∷ []) x clean)))
  effects_readable text t es (SpellsEffects.change u at word how v w a e x is fluent by) clean =
      let parts = begun_clean text u at word (v ∷ w ∷ []) x clean in
      one_readable (effect.Num how a e) (
        atom_readable text true v a fluent (first_clean text v (w ∷ []) parts),
        expression_readable text w e by (first_clean text w [] (rest_clean text v (w ∷ []) parts)),
        expression_low text w e by,
      )

  effects_of_all_readable : (text : List ℕ) (ts : List Tree) (es : List Effect) → SpellsEffectsOfAll text ts es → all_leaves text ts ≡ [] → All IsReadableEffect es
  effects_of_all_readable text ts es SpellsEffectsOfAll.none clean = All-nil IsReadableEffect
  effects_of_all_readable text ts es (SpellsEffectsOfAll.next t us fs gs here later) clean =
      All-append IsReadableEffect fs gs (effects_readable text t fs here (first_clean text t us clean)) (effects_of_all_readable text us gs later (rest_clean text t us clean))
