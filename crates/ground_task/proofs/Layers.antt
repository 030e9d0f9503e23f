-- Values and truths by what an expression or a condition is.
use Rattle.std.proofs.Common.{◌≡◌, ℕ, Bool, true, false, List, Some, ◌∙◌}
use Rattle.std.specs.List.{list_all}
use Rattle.num_ends.specs.Decimal.{Decimal, trimmed}
use Rattle.num_ends.specs.Range.{operands_fit}
use Rattle.ground_task.specs.declared.raw.Rel.{Rel}
use Rattle.ground_task.specs.declared.raw.GExpr.{GExpr}
use Rattle.ground_task.specs.declared.raw.GExpr.TheVariants as e
use Rattle.ground_task.specs.declared.raw.GCond.{GCond}
use Rattle.ground_task.specs.declared.raw.GCond.TheVariants as c
use Rattle.ground_task.specs.Meaning.{fact_value, fluent_value, has_truth, holds, holds_layer, stands, value_of}
use Rattle.ground_task.specs.Ranged.{both, bounds_layer, combined, is_in_bounds, ranged_difference, ranged_layer, ranged_product, ranged_sum, ranged_value}
use Rattle.ground_task.specs.States.{StateValue}
use Rattle.ground_task.proofs.Trees.{fold-Const, fold-Read, fold-Add, fold-Sub, fold-Mul, fold-True, fold-False, fold-Fact, fold-Cmp, fold-And, fold-Or, list_all-map}

module _ (places : List ℕ) (s : StateValue) where
  pub ranged_Const : (d : Decimal) → ranged_value places s (e.Const d) ≡ Some (trimmed d)
  unfolding ranged_value
  ranged_Const d = fold-Const (ranged_layer (fluent_value places s)) d

  pub ranged_Read : (x : ℕ) → ranged_value places s (e.Read x) ≡ Some (fluent_value places s x)
  unfolding ranged_value
  ranged_Read x = fold-Read (ranged_layer (fluent_value places s)) x

  pub ranged_Add : (a b : GExpr) → ranged_value places s (e.Add a b) ≡ combined ranged_sum (ranged_value places s a) (ranged_value places s b)
  unfolding ranged_value
  ranged_Add a b = fold-Add (ranged_layer (fluent_value places s)) a b

  pub ranged_Sub : (a b : GExpr) → ranged_value places s (e.Sub a b) ≡ combined ranged_difference (ranged_value places s a) (ranged_value places s b)
  unfolding ranged_value
  ranged_Sub a b = fold-Sub (ranged_layer (fluent_value places s)) a b

  pub ranged_Mul : (a b : GExpr) → ranged_value places s (e.Mul a b) ≡ combined ranged_product (ranged_value places s a) (ranged_value places s b)
  unfolding ranged_value
  ranged_Mul a b = fold-Mul (ranged_layer (fluent_value places s)) a b

  pub bounds_True : is_in_bounds places s c.True ≡ true
  unfolding is_in_bounds
  bounds_True = fold-True (bounds_layer places s)

  pub bounds_False : is_in_bounds places s c.False ≡ true
  unfolding is_in_bounds
  bounds_False = fold-False (bounds_layer places s)

  pub bounds_Fact : (f : ℕ) (truth : Bool) → is_in_bounds places s (c.Fact f truth) ≡ true
  unfolding is_in_bounds
  bounds_Fact f truth = fold-Fact (bounds_layer places s) f truth

  pub bounds_Cmp : (r : Rel) (a b : GExpr) → is_in_bounds places s (c.Cmp r a b) ≡ both operands_fit (ranged_value places s a) (ranged_value places s b)
  unfolding is_in_bounds
  bounds_Cmp r a b = fold-Cmp (bounds_layer places s) r a b

  pub bounds_And : (cs : List GCond) → is_in_bounds places s (c.And cs) ≡ list_all (is_in_bounds places s) cs
  unfolding is_in_bounds
  bounds_And cs = fold-And (bounds_layer places s) cs ∙ list_all-map (is_in_bounds places s) cs

  pub bounds_Or : (cs : List GCond) → is_in_bounds places s (c.Or cs) ≡ list_all (is_in_bounds places s) cs
  unfolding is_in_bounds
  bounds_Or cs = fold-Or (bounds_layer places s) cs ∙ list_all-map (is_in_bounds places s) cs

  pub holds_True : holds places s c.True ≡ true
  holds_True = fold-True (holds_layer (fact_value s) (fluent_value places s))

  pub holds_False : holds places s c.False ≡ false
  holds_False = fold-False (holds_layer (fact_value s) (fluent_value places s))

  pub holds_Fact : (f : ℕ) (truth : Bool) → holds places s (c.Fact f truth) ≡ has_truth truth (fact_value s f)
  holds_Fact f truth = fold-Fact (holds_layer (fact_value s) (fluent_value places s)) f truth

  pub holds_Cmp : (r : Rel) (a b : GExpr) → holds places s (c.Cmp r a b) ≡ stands r (value_of places s a) (value_of places s b)
  holds_Cmp r a b = fold-Cmp (holds_layer (fact_value s) (fluent_value places s)) r a b
