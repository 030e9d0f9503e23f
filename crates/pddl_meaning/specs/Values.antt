-- The values of expressions in a world, without bounds and within the range of the code's decimals.
use Rattle.std.specs.Prelude.{ℕ, ℤ, ◌+◌, ◌^◌, ◌/◌, ◌%◌, ◌==◌, ◌&&◌, ◌||◌, Bool, true, List, Option, Some, None, pos, neg_ℤ, not, nat_le, int_lt, unsigned_abs, option_map, if◌then◌else◌}
use Rattle.std.specs.Option.{option_and_then}
use Rattle.std.specs.FinMap as finite
use Rattle.num_ends.specs.Decimal.{Decimal, sum_of, difference_of, product_of, trimmed}
use Rattle.num_ends.specs.Range.{in_range, operands_fit, where_fits}
use Rattle.pddl_terms.specs.declared.names.Typed.{Typed}
use Rattle.pddl_terms.specs.declared.expressions.Op.{Op}
use Rattle.pddl_terms.specs.declared.expressions.Op.TheVariants as op
use Rattle.pddl_terms.specs.declared.expressions.Expr.{Expr, Expr-F, fold-Expr}
use Rattle.pddl_terms.specs.declared.expressions.Expr.TheOpen as expression
use Rattle.pddl_terms.specs.Texts.{ground_text}
use Rattle.pddl_meaning.specs.Worlds.{WorldValue}

-- ---- operations

abbrev pub signed : Bool → ℕ → ℤ
signed negative n = if negative then neg_ℤ (pos n) else pos n

-- 1 over a decimal, trimmed, where that is a decimal of at most 9 places
abbrev pub inverse_of : Decimal → Option Decimal
inverse_of d =
    if unsigned_abs d.n == 0 || not (10 ^ (d.p + 9) % unsigned_abs d.n == 0) then None
    else Some (trimmed (record { n = signed (int_lt d.n (pos 0)) (10 ^ (d.p + 9) / unsigned_abs d.n); p = 9 }))

-- what an operation gives, trimmed, without bounds: a division is the product with the divisor's inverse, where it has one
unfoldable pub exactly : Op → Decimal → Decimal → Option Decimal
exactly op.Add a b = Some (trimmed (sum_of a b))
exactly op.Sub a b = Some (trimmed (difference_of a b))
exactly op.Mul a b = Some (trimmed (product_of a b))
exactly op.Div a b = option_map (λ e. trimmed (product_of a e)) (inverse_of b)

abbrev pub ranged_product : Decimal → Decimal → Option Decimal
ranged_product a b = where_fits (nat_le (a.p + b.p) 18 && in_range (product_of a b).n) (trimmed (product_of a b))

-- the same where the operands and the result are in range
unfoldable pub in_bounds : Op → Decimal → Decimal → Option Decimal
in_bounds op.Add a b = where_fits (operands_fit a b && in_range (sum_of a b).n) (trimmed (sum_of a b))
in_bounds op.Sub a b = where_fits (operands_fit a b && in_range (difference_of a b).n) (trimmed (difference_of a b))
in_bounds op.Mul a b = ranged_product a b
in_bounds op.Div a b = option_and_then (ranged_product a) (inverse_of b)

-- an operation on what may have no value
abbrev pub combined : (Op → Decimal → Decimal → Option Decimal) → Op → Option Decimal → Option Decimal → Option Decimal
combined operate o x y = option_and_then (λ a. option_and_then (operate o a) y) x

-- ---- expressions

abbrev pub value_layer : (Op → Decimal → Decimal → Option Decimal) → List Typed → List (List ℕ) → WorldValue → Expr-F (Option Decimal) → Option Decimal
value_layer operate params args w (expression.Lit d at) = Some (trimmed d)
value_layer operate params args w (expression.Read a) = finite.get w.values (ground_text params args a)
value_layer operate params args w (expression.Op at o x y) = combined operate o x y

-- the value of an expression, where each fluent that it reads is defined and each of its operations gives something
unfoldable pub value_by : (Op → Decimal → Decimal → Option Decimal) → List Typed → List (List ℕ) → WorldValue → Expr → Option Decimal
value_by operate params args w = fold-Expr (Option Decimal) (value_layer operate params args w)

-- the value without bounds
abbrev pub value_of : List Typed → List (List ℕ) → WorldValue → Expr → Option Decimal
value_of = value_by exactly

-- the same where besides no subvalue leaves the range
abbrev pub ranged_value : List Typed → List (List ℕ) → WorldValue → Expr → Option Decimal
ranged_value = value_by in_bounds

abbrev pub reads_layer : List Typed → List (List ℕ) → WorldValue → Expr-F Bool → Bool
reads_layer params args w (expression.Lit d at) = true
reads_layer params args w (expression.Read a) = finite.contains_key w.values (ground_text params args a)
reads_layer params args w (expression.Op at o x y) = x && y

-- each fluent that an expression reads is defined
unfoldable pub reads_defined : List Typed → List (List ℕ) → WorldValue → Expr → Bool
reads_defined params args w = fold-Expr Bool (reads_layer params args w)
