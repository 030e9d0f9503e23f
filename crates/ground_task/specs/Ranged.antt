-- The step and the truth of conditions within the range of the code's numbers: over is what leaves it on the way.
use Rattle.std.specs.Prelude.{ℕ, ◌&&◌, Bool, true, false, not, List, [], ◌∷◌, Option, Some, slice_get, slice_index_or, if◌then◌else◌}
use Rattle.std.specs.List.{list_all}
use Rattle.std.specs.Option.{option_and_then, option_map_or}
use Rattle.num_ends.specs.Decimal.{Decimal, number_at, sum_of, difference_of, product_of, trimmed}
use Rattle.num_ends.specs.Range.{in_range, operands_fit, where_fits}
use Rattle.ground_task.specs.declared.answers.Advanced.{Advanced}
use Rattle.ground_task.specs.declared.answers.Advanced.TheVariants as advance
use Rattle.ground_task.specs.declared.answers.Applied.{Applied}
use Rattle.ground_task.specs.declared.answers.Applied.TheVariants as step
use Rattle.ground_task.specs.declared.answers.Truth.{Truth}
use Rattle.ground_task.specs.declared.answers.Truth.TheVariants as truth
use Rattle.ground_task.specs.declared.raw.GExpr.{GExpr, GExpr-F, fold-GExpr}
use Rattle.ground_task.specs.declared.raw.GExpr.TheOpen as expr
use Rattle.ground_task.specs.declared.raw.GCond.{GCond, GCond-F, fold-GCond, out-GCond}
use Rattle.ground_task.specs.declared.raw.GCond.TheOpen as cond
use Rattle.ground_task.specs.declared.raw.Change.{Change}
use Rattle.ground_task.specs.declared.raw.Change.TheVariants.{Add, Set}
use Rattle.ground_task.specs.declared.raw.Ground.{Ground}
use Rattle.ground_task.specs.Meaning.{fact_value, fluent_value, has_truth, holds}
use Rattle.ground_task.specs.States.{StateValue}
use Rattle.ground_task.specs.Steps.{next_state}
use Rattle.ground_task.specs.Tasks.{TaskValue}

-- ---- values

-- operands are brought to the larger of their counts of places, where they are in range too
abbrev pub ranged_sum : Decimal → Decimal → Option Decimal
ranged_sum a b = where_fits (operands_fit a b && in_range (sum_of a b).n) (sum_of a b)

abbrev pub ranged_difference : Decimal → Decimal → Option Decimal
ranged_difference a b = where_fits (operands_fit a b && in_range (difference_of a b).n) (difference_of a b)

abbrev pub ranged_product : Decimal → Decimal → Option Decimal
ranged_product a b = where_fits (in_range (product_of a b).n) (product_of a b)

-- an operation on what may have no value
abbrev pub combined : (Decimal → Decimal → Option Decimal) → Option Decimal → Option Decimal → Option Decimal
combined operate x y = option_and_then (λ a. option_and_then (operate a) y) x

abbrev pub ranged_layer : (ℕ → Decimal) → GExpr-F (Option Decimal) → Option Decimal
ranged_layer v (expr.Const c) = Some (trimmed c)
ranged_layer v (expr.Read x) = Some (v x)
ranged_layer v (expr.Add a b) = combined ranged_sum a b
ranged_layer v (expr.Sub a b) = combined ranged_difference a b
ranged_layer v (expr.Mul a b) = combined ranged_product a b

-- the value of an expression in a state, where no subvalue leaves the range
unfoldable pub ranged_value : List ℕ → StateValue → GExpr → Option Decimal
ranged_value places s = fold-GExpr (Option Decimal) (ranged_layer (fluent_value places s))

-- ---- conditions

-- a test of two values, false where one is missing
abbrev pub both : (Decimal → Decimal → Bool) → Option Decimal → Option Decimal → Bool
both test x y = option_map_or (λ a. option_map_or (test a) y false) x false

abbrev pub bounds_layer : List ℕ → StateValue → GCond-F Bool → Bool
bounds_layer places s cond.True = true
bounds_layer places s cond.False = true
bounds_layer places s (cond.Fact f truth) = true
bounds_layer places s (cond.Cmp r a b) = both operands_fit (ranged_value places s a) (ranged_value places s b)
bounds_layer places s (cond.And cs) = list_all (λ c. c) cs
bounds_layer places s (cond.Or cs) = list_all (λ c. c) cs

-- in no comparison, wherever it stands, does a subvalue leave the range, nor do the sides at the larger of their counts
-- of places
unfoldable pub is_in_bounds : List ℕ → StateValue → GCond → Bool
is_in_bounds places s = fold-GCond Bool (bounds_layer places s)

-- the truth of a condition within the range, with no comparison skipped
abbrev pub ranged_truth : TaskValue → StateValue → GCond → Truth
ranged_truth t s c =
    if not (is_in_bounds t.places s c) then truth.Over
    else (if holds t.places s c then truth.Yes else truth.No)

abbrev pub ranged_goal : TaskValue → StateValue → Truth
ranged_goal t s = ranged_truth t s t.raw.goal

-- ---- steps

abbrev pub conjuncts_layer : GCond → GCond-F GCond → List GCond
conjuncts_layer c cond.True = c ∷ []
conjuncts_layer c cond.False = c ∷ []
conjuncts_layer c (cond.Fact f truth) = c ∷ []
conjuncts_layer c (cond.Cmp r a b) = c ∷ []
conjuncts_layer c (cond.And cs) = cs
conjuncts_layer c (cond.Or cs) = c ∷ []

-- the members of an outermost conjunction, or the condition itself
abbrev pub top_conjuncts : GCond → List GCond
top_conjuncts c = conjuncts_layer c (out-GCond c)

abbrev pub literal_layer : StateValue → GCond-F GCond → Bool
literal_layer s cond.True = true
literal_layer s cond.False = true
literal_layer s (cond.Fact f truth) = has_truth truth (fact_value s f)
literal_layer s (cond.Cmp r a b) = true
literal_layer s (cond.And cs) = true
literal_layer s (cond.Or cs) = true

-- each top conjunct that is a literal, a fact with its truth value, is true
unfoldable pub literals_true : StateValue → GCond → Bool
literals_true s c = list_all (λ d. literal_layer s (out-GCond d)) (top_conjuncts c)

-- the value that a change gives a fluent is in range at the fluent's places, and so is what is added
abbrev pub is_change_in_bounds : List ℕ → StateValue → ℕ → Change → Bool
is_change_in_bounds places s x (Add e) =
    option_map_or (λ d. operands_fit (fluent_value places s x) d && in_range (sum_of (fluent_value places s x) d).n) (ranged_value places s e) false
is_change_in_bounds places s x (Set e) =
    option_map_or (λ d. in_range (number_at (slice_index_or places x 0) d)) (ranged_value places s e) false

abbrev pub are_effects_in_bounds : List ℕ → StateValue → List (ℕ × Change) → Bool
are_effects_in_bounds places s effects = list_all (λ effect. is_change_in_bounds places s effect.0 effect.1) effects

-- an action in a state: the first that applies of
--   a top conjunct that is a literal is false; a subvalue of the precondition leaves the range; the precondition is false;
--   a subvalue of the effects leaves the range
unfoldable pub ranged_action : List ℕ → StateValue → Ground → Applied
ranged_action places s a =
    if not (literals_true s a.pre) then step.Blocked
    else (if not (is_in_bounds places s a.pre) then step.Over
    else (if not (holds places s a.pre) then step.Blocked
    else (if not (are_effects_in_bounds places s a.nums) then step.Over
    else step.Next (next_state places s a))))

-- the action of this number in a state
abbrev pub ranged_step : TaskValue → StateValue → ℕ → Applied
ranged_step t s number = option_map_or (ranged_action t.places s) (slice_get t.raw.actions number) step.Blocked

-- the same answer without the next state
abbrev pub without_state : Applied → Advanced
without_state step.Blocked = advance.Blocked
without_state step.Over = advance.Over
without_state (step.Next s) = advance.Next
