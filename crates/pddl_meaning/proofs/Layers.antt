-- Values and truths by what an expression or a condition is.
use Rattle.std.proofs.Common.{◌≡◌, ◌&&◌, ◌||◌, ℕ, Bool, true, List, Option, Some, not, ◌∙◌}
use Rattle.std.specs.Prelude.{bytes_eq}
use Rattle.std.specs.List.{list_all, list_any}
use Rattle.std.specs.FinSet as set
use Rattle.std.specs.FinMap as finite
use Rattle.num_ends.specs.Decimal.{Decimal, trimmed}
use Rattle.pddl_terms.specs.declared.names.Arg.{Arg}
use Rattle.pddl_terms.specs.declared.names.Atom.{Atom}
use Rattle.pddl_terms.specs.declared.names.Typed.{Typed}
use Rattle.pddl_terms.specs.declared.expressions.Op.{Op}
use Rattle.pddl_terms.specs.declared.expressions.Expr.{Expr}
use Rattle.pddl_terms.specs.declared.expressions.Expr.TheVariants as e
use Rattle.pddl_terms.specs.declared.conditions.Rel.{Rel}
use Rattle.pddl_terms.specs.declared.conditions.Cond.{Cond}
use Rattle.pddl_terms.specs.declared.conditions.Cond.TheVariants as c
use Rattle.pddl_terms.specs.Texts.{argument_text, ground_text}
use Rattle.pddl_meaning.specs.Worlds.{WorldValue}
use Rattle.pddl_meaning.specs.Values.{combined, reads_defined, reads_layer, value_by, value_layer, value_of}
use Rattle.pddl_meaning.specs.Truth.{both, comparisons_layer, each_comparison, is_true, stands, truth_layer}
use Rattle.pddl_meaning.proofs.Folds.{fold-Lit, fold-Read, fold-Op, fold-And, fold-Or, fold-Not, fold-Imply, fold-Fact, fold-Same, fold-Cmp, list_all-map, list_any-map}

module _ (operate : Op → Decimal → Decimal → Option Decimal) (params : List Typed) (args : List (List ℕ)) (w : WorldValue) where
  pub value_of_Lit : (d : Decimal) (at : ℕ) → value_by operate params args w (e.Lit d at) ≡ Some (trimmed d)
  unfolding value_by
  value_of_Lit d at = fold-Lit (value_layer operate params args w) d at

  pub value_of_Read : (a : Atom) → value_by operate params args w (e.Read a) ≡ finite.get w.values (ground_text params args a)
  unfolding value_by
  value_of_Read a = fold-Read (value_layer operate params args w) a

  pub value_of_Op : (at : ℕ) (o : Op) (x y : Expr) → value_by operate params args w (e.Op at o x y) ≡ combined operate o (value_by operate params args w x) (value_by operate params args w y)
  unfolding value_by
  value_of_Op at o x y = fold-Op (value_layer operate params args w) at o x y

module _ (params : List Typed) (args : List (List ℕ)) (w : WorldValue) where
  pub reads_of_Lit : (d : Decimal) (at : ℕ) → reads_defined params args w (e.Lit d at) ≡ true
  unfolding reads_defined
  reads_of_Lit d at = fold-Lit (reads_layer params args w) d at

  pub reads_of_Read : (a : Atom) → reads_defined params args w (e.Read a) ≡ finite.contains_key w.values (ground_text params args a)
  unfolding reads_defined
  reads_of_Read a = fold-Read (reads_layer params args w) a

  pub reads_of_Op : (at : ℕ) (o : Op) (x y : Expr) → reads_defined params args w (e.Op at o x y) ≡ (reads_defined params args w x && reads_defined params args w y)
  unfolding reads_defined
  reads_of_Op at o x y = fold-Op (reads_layer params args w) at o x y

  pub true_And : (cs : List Cond) → is_true params args w (c.And cs) ≡ list_all (is_true params args w) cs
  unfolding is_true
  true_And cs = fold-And (truth_layer params args w) cs ∙ list_all-map (is_true params args w) cs

  pub true_Or : (cs : List Cond) → is_true params args w (c.Or cs) ≡ list_any (is_true params args w) cs
  unfolding is_true
  true_Or cs = fold-Or (truth_layer params args w) cs ∙ list_any-map (is_true params args w) cs

  pub true_Not : (b : Cond) → is_true params args w (c.Not b) ≡ not (is_true params args w b)
  unfolding is_true
  true_Not b = fold-Not (truth_layer params args w) b

  pub true_Imply : (a b : Cond) → is_true params args w (c.Imply a b) ≡ (not (is_true params args w a) || is_true params args w b)
  unfolding is_true
  true_Imply a b = fold-Imply (truth_layer params args w) a b

  pub true_Fact : (a : Atom) → is_true params args w (c.Fact a) ≡ set.contains w.facts (ground_text params args a)
  unfolding is_true
  true_Fact a = fold-Fact (truth_layer params args w) a

  pub true_Same : (a b : Arg) → is_true params args w (c.Same a b) ≡ bytes_eq (argument_text params args a) (argument_text params args b)
  unfolding is_true
  true_Same a b = fold-Same (truth_layer params args w) a b

  pub true_Cmp : (r : Rel) (x y : Expr) → is_true params args w (c.Cmp r x y) ≡ both (stands r) (value_of params args w x) (value_of params args w y)
  unfolding is_true
  true_Cmp r x y = fold-Cmp (truth_layer params args w) r x y

module _ (test : Expr → Expr → Bool) where
  pub each_And : (cs : List Cond) → each_comparison test (c.And cs) ≡ list_all (each_comparison test) cs
  unfolding each_comparison
  each_And cs = fold-And (comparisons_layer test) cs ∙ list_all-map (each_comparison test) cs

  pub each_Or : (cs : List Cond) → each_comparison test (c.Or cs) ≡ list_all (each_comparison test) cs
  unfolding each_comparison
  each_Or cs = fold-Or (comparisons_layer test) cs ∙ list_all-map (each_comparison test) cs

  pub each_Not : (b : Cond) → each_comparison test (c.Not b) ≡ each_comparison test b
  unfolding each_comparison
  each_Not b = fold-Not (comparisons_layer test) b

  pub each_Imply : (a b : Cond) → each_comparison test (c.Imply a b) ≡ (each_comparison test a && each_comparison test b)
  unfolding each_comparison
  each_Imply a b = fold-Imply (comparisons_layer test) a b

  pub each_Fact : (a : Atom) → each_comparison test (c.Fact a) ≡ true
  unfolding each_comparison
  each_Fact a = fold-Fact (comparisons_layer test) a

  pub each_Same : (a b : Arg) → each_comparison test (c.Same a b) ≡ true
  unfolding each_comparison
  each_Same a b = fold-Same (comparisons_layer test) a b

  pub each_Cmp : (r : Rel) (x y : Expr) → each_comparison test (c.Cmp r x y) ≡ test x y
  unfolding each_comparison
  each_Cmp r x y = fold-Cmp (comparisons_layer test) r x y
