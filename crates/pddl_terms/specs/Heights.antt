-- The heights of expressions and conditions, with the grouping of operands counted.
use Rattle.std.specs.Prelude.{ℕ, ◌+◌, max, fold}
use Rattle.pddl_terms.specs.declared.expressions.Expr.{Expr, Expr-F, fold-Expr}
use Rattle.pddl_terms.specs.declared.expressions.Expr.TheOpen as expression
use Rattle.pddl_terms.specs.declared.conditions.Cond.{Cond, Cond-F, fold-Cond}
use Rattle.pddl_terms.specs.declared.conditions.Cond.TheOpen as condition

abbrev pub expression_layer : Expr-F ℕ → ℕ
expression_layer (expression.Lit d at) = 1
expression_layer (expression.Read a) = 1
expression_layer (expression.Op at op x y) = max x y + 1

-- a number and a read are 1 high, and an operation is one higher than its highest operand
abbrev pub expression_height : Expr → ℕ
expression_height = fold-Expr ℕ expression_layer

abbrev pub condition_layer : Cond-F ℕ → ℕ
condition_layer (condition.And hs) = fold max 0 hs + 1
condition_layer (condition.Or hs) = fold max 0 hs + 1
condition_layer (condition.Not h) = h + 1
condition_layer (condition.Imply g h) = max g h + 1
condition_layer (condition.Fact a) = 1
condition_layer (condition.Same a b) = 1
condition_layer (condition.Cmp r e f) = max (expression_height e) (expression_height f) + 1

-- a fact and an equality of objects are 1 high, and any other condition is one higher than its highest part
abbrev pub condition_height : Cond → ℕ
condition_height = fold-Cond ℕ condition_layer
