-- What a tree says as an expression, with all its faults.
use Rattle.std.specs.Prelude.{ℕ, ◌++◌, List, [], ◌∷◌, Option, Some, None, map, drop, length, nat_lt, fold, flat_map, option_map, if◌then◌else◌}
use Rattle.std.specs.Option.{option_map_or}
use Rattle.num_ends.specs.Decimal.{origin}
use Rattle.pddl_terms.specs.declared.names.Atom.{Atom}
use Rattle.pddl_terms.specs.declared.expressions.Op.{Op}
use Rattle.pddl_terms.specs.declared.expressions.Op.TheVariants as op
use Rattle.pddl_terms.specs.declared.expressions.Expr.{Expr}
use Rattle.pddl_terms.specs.declared.expressions.Expr.TheVariants as expr
use Rattle.pddl_terms.specs.Heights.{expression_height}
use Rattle.pddl_terms.specs.declared.limits.TheConstants.{MAX_HEIGHT}
use Rattle.pddl_trees.specs.declared.faults.Reason.TheVariants.{TooDeep}
use Rattle.pddl_trees.specs.declared.faults.Fault.{Fault}
use Rattle.pddl_trees.specs.Faults.{fault_at}
use Rattle.pddl_trees.specs.Words.{is_number_word, number_in, operation_of}
use Rattle.pddl_trees.specs.Forms.{Form, Parsed, both, extra, misfit, missing, sound}

-- a tree that is too high
abbrev pub too_high : ℕ → ℕ → List Fault
too_high at height = if nat_lt MAX_HEIGHT height then fault_at at TooDeep ∷ [] else []

abbrev pub measured_expr : ℕ → Parsed Expr → Parsed Expr
measured_expr at e = record {
  value = e.value;
  faults = e.faults ++ option_map_or (λ x. too_high at (expression_height x)) e.value [];
}

-- a difference may have a single operand
abbrev pub fewest_operands : Op → ℕ
fewest_operands op.Add = 2
fewest_operands op.Sub = 1
fewest_operands op.Mul = 2
fewest_operands op.Div = 2

-- the operands past those that an operation may have
abbrev pub extra_operands : Op → List Form → List Fault
extra_operands op.Add ts = []
extra_operands op.Sub ts = extra 2 ts
extra_operands op.Mul ts = []
extra_operands op.Div ts = extra 2 ts

-- operands grouped from the left; a single one is taken from 0
abbrev pub grouped : ℕ → Op → List (Option Expr) → Option Expr
grouped at o [] = None
grouped at o (x ∷ []) = both (expr.Op at o) (Some (expr.Lit origin at)) x
grouped at o (x ∷ y ∷ ys) = fold (both (expr.Op at o)) x (y ∷ ys)

abbrev pub operation : ℕ → Op → List Form → Parsed Expr
operation at o ts =
    let misfits = missing at (fewest_operands o) ts ++ extra_operands o ts in
    record {
      value = if nat_lt 0 (length misfits) then None else grouped at o (map (λ t. t.expr.value) ts);
      faults = flat_map (λ t. t.expr.faults) ts ++ misfits;
    }

abbrev pub read_of : Parsed Atom → Parsed Expr
read_of a = record { value = option_map expr.Read a.value; faults = a.faults }

-- an operation by its word, or a read of a function
abbrev pub expr_of : ℕ → Option (List ℕ) → List Form → Parsed Atom → Parsed Expr
expr_of at None ts a = read_of a
expr_of at (Some w) ts a =
    option_map_or (λ o. measured_expr at (operation at o (drop 1 ts))) (operation_of w) (read_of a)

-- a number that isn't taken is a fault of its own, and counts as 0 here
abbrev pub leaf_expr : ℕ → List ℕ → Parsed Expr
leaf_expr at w =
    if is_number_word w then sound Expr (expr.Lit (option_map_or (λ d. d) (number_in w) origin) at) else misfit Expr at
