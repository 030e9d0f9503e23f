-- What is built of a tree: nothing that is too high.
use Rattle.std.specs.Prelude.{ℕ, Option, Some, None, nat_lt, if◌then◌else◌}
use Rattle.pddl_terms.specs.declared.expressions.Expr.{Expr}
use Rattle.pddl_terms.specs.declared.conditions.Cond.{Cond}
use Rattle.pddl_terms.specs.Heights.{expression_height, condition_height}
use Rattle.pddl_terms.specs.declared.limits.TheConstants.{MAX_HEIGHT}
use Rattle.pddl_expressions.specs.declared.found.Found.{Found}
use Rattle.pddl_expressions.specs.declared.found.Found.TheVariants.{Misfit, TooHigh, Fine}

-- a value is kept with its height where it isn't too high
abbrev pub cut : {A : Type 0} → (A → ℕ) → Option A → Found A
cut height None = Misfit
cut height (Some x) = if nat_lt MAX_HEIGHT (height x) then TooHigh else Fine x (height x)

abbrev pub cut_expr : Option Expr → Found Expr
cut_expr value = cut expression_height value

abbrev pub cut_cond : Option Cond → Found Cond
cut_cond value = cut condition_height value
