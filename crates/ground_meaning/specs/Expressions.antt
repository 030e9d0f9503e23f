-- Expressions with their constants folded, under a binding of parameters to the names of objects.
use Rattle.std.specs.Prelude.{ℕ, List, Option, Some, None, Result, Ok, Err, unwrap_or, if◌then◌else◌}
use Rattle.std.specs.Option.{option_map_or}
use Rattle.num_ends.specs.Decimal.{Decimal, origin, trimmed}
use Rattle.pddl_terms.specs.declared.names.Atom.{Atom}
use Rattle.pddl_terms.specs.declared.names.Typed.{Typed}
use Rattle.pddl_terms.specs.declared.expressions.Op.{Op}
use Rattle.pddl_terms.specs.declared.expressions.Op.TheVariants as op
use Rattle.pddl_terms.specs.declared.expressions.Expr.{Expr, Expr-F, fold-Expr}
use Rattle.pddl_terms.specs.declared.expressions.Expr.TheOpen as expression
use Rattle.pddl_types.specs.declared.pairs.Pair.{Pair}
use Rattle.static_facts.specs.Atoms.{atom_of, value_at_first}
use Rattle.static_facts.specs.Fixed.{is_fixed_function}
use Rattle.static_facts.specs.Codes.{fluent_code}
use Rattle.pddl_meaning.specs.Values.{in_bounds, inverse_of}
use Rattle.ground_task.specs.declared.raw.GExpr.{GExpr}
use Rattle.ground_task.specs.declared.raw.GExpr.TheVariants as e
use Rattle.ground_meaning.specs.Results.{after}

-- why an expression can't be folded: the divisor at this place has no inverse, or a number leaves the range
pub data FoldFault : Type 0 where
  Divide : ℕ → FoldFault
  OutOfRange : FoldFault

-- a folded expression: a constant, or one that reads fluents, each by its code
pub data Operand : Type 0 where
  constant : Decimal → Operand
  computed : GExpr → Operand

abbrev pub as_expression : Operand → GExpr
as_expression (constant c) = e.Const c
as_expression (computed g) = g

-- ---- operations

abbrev pub constant_or : FoldFault → Option Decimal → Result Operand FoldFault
constant_or fault None = Err fault
constant_or fault (Some c) = Ok (constant c)

-- an operation on two constants gives a constant, where nothing leaves the range
abbrev pub operation : Op → (GExpr → GExpr → GExpr) → Operand → Operand → Result Operand FoldFault
operation o make (constant c) (constant d) = constant_or OutOfRange (in_bounds o c d)
operation o make (constant c) (computed h) = Ok (computed (make (e.Const c) h))
operation o make (computed g) b = Ok (computed (make g (as_expression b)))

abbrev pub sum : Operand → Operand → Result Operand FoldFault
sum a b = operation op.Add e.Add a b

abbrev pub difference : Operand → Operand → Result Operand FoldFault
difference a b = operation op.Sub e.Sub a b

abbrev pub product : Operand → Operand → Result Operand FoldFault
product a b = operation op.Mul e.Mul a b

-- the product with the inverse of the divisor, which stands at a place
abbrev pub quotient : ℕ → Operand → Operand → Result Operand FoldFault
quotient place a (constant d) = option_map_or (λ inverse. product a (constant inverse)) (inverse_of d) (Err (Divide place))
quotient place a (computed g) = Err (Divide place)

abbrev pub operated : Op → ℕ → Operand → Operand → Result Operand FoldFault
operated op.Add place a b = sum a b
operated op.Sub place a b = difference a b
operated op.Mul place a b = product a b
operated op.Div place a b = quotient place a b

-- ---- expressions

-- a read of a fixed function is its first value, and any other one reads the fluent
abbrev pub folded_read : Pair → List Typed → List (List ℕ) → Atom → Operand
folded_read p params args a =
    if is_fixed_function p a.head.text then constant (unwrap_or (value_at_first p (atom_of params args a)) origin)
    else computed (e.Read (fluent_code p (atom_of params args a)))

-- an expression's place in its file, that of a read at its name, and what it folds to
pub record Folded : Type 0 where
  pub place : ℕ
  pub value : Result Operand FoldFault

abbrev pub folded_layer : Pair → List Typed → List (List ℕ) → Expr-F Folded → Folded
folded_layer p params args (expression.Lit d at) = record { place = at; value = Ok (constant (trimmed d)) }
folded_layer p params args (expression.Read a) = record { place = a.head.at; value = Ok (folded_read p params args a) }
folded_layer p params args (expression.Op at o x y) =
    record { place = at; value = after (λ a. after (λ b. operated o y.place a b) y.value) x.value }

unfoldable pub folded_parts : Pair → List Typed → List (List ℕ) → Expr → Folded
folded_parts p params args = fold-Expr Folded (folded_layer p params args)

-- operands are folded from left to right, and then their operation
abbrev pub folded : Pair → List Typed → List (List ℕ) → Expr → Result Operand FoldFault
folded p params args e = (folded_parts p params args e).value
