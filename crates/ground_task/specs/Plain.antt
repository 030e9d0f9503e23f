-- Plain tasks: whole numbers, comparisons of fluents and constants, and changes by constants.
use Rattle.std.specs.Prelude.{ℕ, ◌≡◌, ◌==◌, ◌&&◌, List, Bool, true, false, IsTrue, length, All}
use Rattle.std.specs.List.{list_all}
use Rattle.ground_task.specs.declared.raw.GExpr.{GExpr, GExpr-F, fold-GExpr}
use Rattle.ground_task.specs.declared.raw.GExpr.TheOpen as expr
use Rattle.ground_task.specs.declared.raw.GCond.{GCond, GCond-F, fold-GCond}
use Rattle.ground_task.specs.declared.raw.GCond.TheOpen as cond
use Rattle.ground_task.specs.declared.raw.Ground.{Ground}
use Rattle.ground_task.specs.declared.raw.RawTask.{RawTask}
use Rattle.ground_task.specs.Valid.{right_side}

-- a constant without places, or a fluent
abbrev pub plain_operand_layer : GExpr-F Bool → Bool
plain_operand_layer (expr.Const c) = c.p == 0
plain_operand_layer (expr.Read x) = true
plain_operand_layer (expr.Add a b) = false
plain_operand_layer (expr.Sub a b) = false
plain_operand_layer (expr.Mul a b) = false

abbrev pub is_plain_operand : GExpr → Bool
is_plain_operand = fold-GExpr Bool plain_operand_layer

-- a constant without places
abbrev pub plain_constant_layer : GExpr-F Bool → Bool
plain_constant_layer (expr.Const c) = c.p == 0
plain_constant_layer (expr.Read x) = false
plain_constant_layer (expr.Add a b) = false
plain_constant_layer (expr.Sub a b) = false
plain_constant_layer (expr.Mul a b) = false

abbrev pub is_plain_constant : GExpr → Bool
is_plain_constant = fold-GExpr Bool plain_constant_layer

-- each comparison is between plain operands
abbrev pub plain_condition_layer : GCond-F Bool → Bool
plain_condition_layer cond.True = true
plain_condition_layer cond.False = true
plain_condition_layer (cond.Fact f truth) = true
plain_condition_layer (cond.Cmp r a b) = is_plain_operand a && is_plain_operand b
plain_condition_layer (cond.And cs) = list_all (λ c. c) cs
plain_condition_layer (cond.Or cs) = list_all (λ c. c) cs

abbrev pub is_plain_condition : GCond → Bool
is_plain_condition = fold-GCond Bool plain_condition_layer

pub record IsPlainAction (a : Ground) : Type 0 where
  pub plain_condition : IsTrue (is_plain_condition a.pre)
  pub plain_changes : All (λ effect. IsTrue (is_plain_constant (right_side effect.1))) a.nums

pub record IsPlain (raw : RawTask) (places : List ℕ) : Type 0 where
  pub plain_actions : All IsPlainAction raw.actions
  pub plain_goal : IsTrue (is_plain_condition raw.goal)
  pub whole_values : All (λ d. d.p ≡ 0) raw.values
  pub no_places : All (λ p. p ≡ 0) places
  pub a_count_each : length places ≡ length raw.fluents
