-- The faults of an expression and of a condition, by what it is.
use Rattle.std.proofs.Common.{◌≡◌, ◌||◌, ℕ, Bool, false, List, [], ◌∷◌, ◌++◌, None, map, refl, sym, ap, ◌∙◌}
use Rattle.std.specs.Prelude.{flat_map}
use Rattle.num_ends.specs.Decimal.{Decimal}
use Rattle.pddl_terms.specs.declared.names.Arg.{Arg}
use Rattle.pddl_terms.specs.declared.names.Atom.{Atom}
use Rattle.pddl_terms.specs.declared.names.Typed.{Typed}
use Rattle.pddl_terms.specs.declared.expressions.Op.{Op}
use Rattle.pddl_terms.specs.declared.expressions.Expr.{Expr, Expr-F, fold-Expr, fold-roll-Expr}
use Rattle.pddl_terms.specs.declared.expressions.Expr.TheVariants as expr
use Rattle.pddl_terms.specs.declared.conditions.Rel.{Rel}
use Rattle.pddl_terms.specs.declared.conditions.Cond.{Cond, Cond-F, fold-Cond, fold-roll-Cond}
use Rattle.pddl_terms.specs.declared.conditions.Cond.TheVariants as condition
use Rattle.pddl_types.specs.declared.faults.Side.{Side}
use Rattle.pddl_types.specs.declared.faults.Fault.{Fault}
use Rattle.pddl_types.specs.declared.pairs.Pair.{Pair}
use Rattle.pddl_types.specs.declared.pairs.Sort.TheVariants.{Predicate}
use Rattle.pddl_types.specs.UseFaults.{argument_faults, atom_faults, condition_faults, condition_faults_layer, expression_faults, expression_faults_layer, is_division, read_faults}

module _ (p : Pair) (side : Side) (params : List Typed) where
  pub number_layer : (d : Decimal) (at : ℕ) (divisor : Bool) → expression_faults p side params (expr.Lit d at) divisor ≡ []
  unfolding expression_faults
  number_layer d at divisor =
      ap (λ (x : Expr). fold-Expr (Bool → List Fault) (expression_faults_layer p side params) x divisor) (sym (expr.rolls-Lit d at))
      ∙ ap (λ (f : Bool → List Fault). f divisor) (fold-roll-Expr (Bool → List Fault) (expression_faults_layer p side params) (Expr-F.Lit d at))

  pub read_layer : (a : Atom) (divisor : Bool) → expression_faults p side params (expr.Read a) divisor ≡ read_faults p side params a divisor
  unfolding expression_faults
  read_layer a divisor =
      ap (λ (x : Expr). fold-Expr (Bool → List Fault) (expression_faults_layer p side params) x divisor) (sym (expr.rolls-Read a))
      ∙ ap (λ (f : Bool → List Fault). f divisor) (fold-roll-Expr (Bool → List Fault) (expression_faults_layer p side params) (Expr-F.Read a))

  pub operation_layer : (at : ℕ) (o : Op) (x y : Expr) (divisor : Bool)
      → expression_faults p side params (expr.Op at o x y) divisor ≡ expression_faults p side params x divisor ++ expression_faults p side params y (divisor || is_division o)
  unfolding expression_faults
  operation_layer at o x y divisor =
      ap (λ (z : Expr). fold-Expr (Bool → List Fault) (expression_faults_layer p side params) z divisor) (sym (expr.rolls-Op at o x y))
      ∙ ap (λ (f : Bool → List Fault). f divisor) (fold-roll-Expr (Bool → List Fault) (expression_faults_layer p side params) (Expr-F.Op at o x y))

  flat_of_maps : (cs : List Cond) → flat_map (λ (fs : List Fault). fs) (map (condition_faults p side params) cs) ≡ flat_map (condition_faults p side params) cs
  flat_of_maps [] = refl
  flat_of_maps (c ∷ cs) = ap (λ (fs : List Fault). condition_faults p side params c ++ fs) (flat_of_maps cs)

  and_rolled : (cs : List Cond) → condition_faults p side params (condition.And cs) ≡ flat_map (λ (fs : List Fault). fs) (map (condition_faults p side params) cs)
  unfolding condition_faults
  and_rolled cs = ap (fold-Cond (List Fault) (condition_faults_layer p side params)) (sym (condition.rolls-And cs)) ∙ fold-roll-Cond (List Fault) (condition_faults_layer p side params) (Cond-F.And cs)

  pub and_layer : (cs : List Cond) → condition_faults p side params (condition.And cs) ≡ flat_map (condition_faults p side params) cs
  and_layer cs = and_rolled cs ∙ flat_of_maps cs

  or_rolled : (cs : List Cond) → condition_faults p side params (condition.Or cs) ≡ flat_map (λ (fs : List Fault). fs) (map (condition_faults p side params) cs)
  unfolding condition_faults
  or_rolled cs = ap (fold-Cond (List Fault) (condition_faults_layer p side params)) (sym (condition.rolls-Or cs)) ∙ fold-roll-Cond (List Fault) (condition_faults_layer p side params) (Cond-F.Or cs)

  pub or_layer : (cs : List Cond) → condition_faults p side params (condition.Or cs) ≡ flat_map (condition_faults p side params) cs
  or_layer cs = or_rolled cs ∙ flat_of_maps cs

  pub not_layer : (c : Cond) → condition_faults p side params (condition.Not c) ≡ condition_faults p side params c
  unfolding condition_faults
  not_layer c = ap (fold-Cond (List Fault) (condition_faults_layer p side params)) (sym (condition.rolls-Not c)) ∙ fold-roll-Cond (List Fault) (condition_faults_layer p side params) (Cond-F.Not c)

  pub imply_layer : (b c : Cond) → condition_faults p side params (condition.Imply b c) ≡ condition_faults p side params b ++ condition_faults p side params c
  unfolding condition_faults
  imply_layer b c = ap (fold-Cond (List Fault) (condition_faults_layer p side params)) (sym (condition.rolls-Imply b c)) ∙ fold-roll-Cond (List Fault) (condition_faults_layer p side params) (Cond-F.Imply b c)

  pub fact_layer : (a : Atom) → condition_faults p side params (condition.Fact a) ≡ atom_faults p side params Predicate a
  unfolding condition_faults
  fact_layer a = ap (fold-Cond (List Fault) (condition_faults_layer p side params)) (sym (condition.rolls-Fact a)) ∙ fold-roll-Cond (List Fault) (condition_faults_layer p side params) (Cond-F.Fact a)

  pub same_layer : (a b : Arg) → condition_faults p side params (condition.Same a b) ≡ argument_faults p side params None a ++ argument_faults p side params None b
  unfolding condition_faults
  same_layer a b = ap (fold-Cond (List Fault) (condition_faults_layer p side params)) (sym (condition.rolls-Same a b)) ∙ fold-roll-Cond (List Fault) (condition_faults_layer p side params) (Cond-F.Same a b)

  pub compare_layer : (r : Rel) (e f : Expr) → condition_faults p side params (condition.Cmp r e f) ≡ expression_faults p side params e false ++ expression_faults p side params f false
  unfolding condition_faults
  compare_layer r e f = ap (fold-Cond (List Fault) (condition_faults_layer p side params)) (sym (condition.rolls-Cmp r e f)) ∙ fold-roll-Cond (List Fault) (condition_faults_layer p side params) (Cond-F.Cmp r e f)
