-- What expressions and conditions mean: over values of the fluents and truth values of the facts, and so in a state.
use Rattle.std.specs.Prelude.{ℕ, List, pos, Bool, true, false, not, slice_index_or}
use Rattle.std.specs.List.{list_all, list_any}
use Rattle.num_ends.specs.Decimal.{Decimal, is_less, is_at_most, is_same_value, sum_of, difference_of, product_of, trimmed}
use Rattle.ground_task.specs.declared.raw.Rel.{Rel}
use Rattle.ground_task.specs.declared.raw.Rel.TheVariants.{Less, LessEqual, Equal, GreaterEqual, Greater}
use Rattle.ground_task.specs.declared.raw.GExpr.{GExpr, GExpr-F, fold-GExpr}
use Rattle.ground_task.specs.declared.raw.GExpr.TheOpen as expr
use Rattle.ground_task.specs.declared.raw.GCond.{GCond, GCond-F, fold-GCond}
use Rattle.ground_task.specs.declared.raw.GCond.TheOpen as cond
use Rattle.ground_task.specs.States.{StateValue}

-- ---- expressions

-- a constant counts by its trimmed value
abbrev pub value_layer : (ℕ → Decimal) → GExpr-F Decimal → Decimal
value_layer v (expr.Const c) = trimmed c
value_layer v (expr.Read x) = v x
value_layer v (expr.Add a b) = sum_of a b
value_layer v (expr.Sub a b) = difference_of a b
value_layer v (expr.Mul a b) = product_of a b

-- the value of an expression where the fluents have these values, without bounds
abbrev pub value_in : (ℕ → Decimal) → GExpr → Decimal
value_in v = fold-GExpr Decimal (value_layer v)

-- ---- conditions

abbrev pub stands : Rel → Decimal → Decimal → Bool
stands Less a b = is_less a b
stands LessEqual a b = is_at_most a b
stands Equal a b = is_same_value a b
stands GreaterEqual a b = is_at_most b a
stands Greater a b = is_less b a

-- a truth value is the asked one
abbrev pub has_truth : Bool → Bool → Bool
has_truth true b = b
has_truth false b = not b

abbrev pub holds_layer : (ℕ → Bool) → (ℕ → Decimal) → GCond-F Bool → Bool
holds_layer facts v cond.True = true
holds_layer facts v cond.False = false
holds_layer facts v (cond.Fact f truth) = has_truth truth (facts f)
holds_layer facts v (cond.Cmp r a b) = stands r (value_in v a) (value_in v b)
holds_layer facts v (cond.And cs) = list_all (λ c. c) cs
holds_layer facts v (cond.Or cs) = list_any (λ c. c) cs

-- a condition holds where the facts have these truth values and the fluents these values
abbrev pub holds_in : (ℕ → Bool) → (ℕ → Decimal) → GCond → Bool
holds_in facts v = fold-GCond Bool (holds_layer facts v)

-- ---- in a state

-- the truth value of a fact in a state
abbrev pub fact_value : StateValue → ℕ → Bool
fact_value s f = slice_index_or s.facts f false

-- the value of a fluent in a state
abbrev pub fluent_value : List ℕ → StateValue → ℕ → Decimal
fluent_value places s x = record { n = slice_index_or s.values x (pos 0); p = slice_index_or places x 0 }

-- the value of an expression in a state, without bounds
abbrev pub value_of : List ℕ → StateValue → GExpr → Decimal
value_of places s = value_in (fluent_value places s)

-- a condition holds in a state
abbrev pub holds : List ℕ → StateValue → GCond → Bool
holds places s = holds_in (fact_value s) (fluent_value places s)
