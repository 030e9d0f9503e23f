-- What is known of names that are looked up, under a binding.
use Rattle.std.specs.Prelude.{ℕ, Bool, List, Option, Some, None, Result}
use Rattle.num_ends.specs.Decimal.{Decimal, origin}
use Rattle.pddl_terms.specs.declared.expressions.Op.{Op}
use Rattle.pddl_terms.specs.declared.conditions.Rel.{Rel}
use Rattle.pddl_types.specs.declared.pairs.Pair.{Pair}
use Rattle.ground_task.specs.declared.raw.GExpr.TheVariants as e
use Rattle.ground_meaning.specs.Results.{mapped}
use Rattle.ground_meaning.specs.Expressions.{FoldFault, Operand, operated}
use Rattle.ground_meaning.specs.Expressions.Operand.{constant, computed}
use Rattle.ground_meaning.specs.Conditions.{compared}
use Rattle.term_patterns.specs.declared.expressions.ExprSlots.{ExprSlots}
use Rattle.term_patterns.specs.declared.slots.CondSlots.{CondSlots}
use Rattle.term_patterns.specs.Bound.{bound_condition, bound_expression}
use Rattle.term_verdicts.specs.Verdicts.{constant_of, truth_of}

unfoldable pub bound_value : Pair → List ℕ → ExprSlots → Result (Option Decimal) FoldFault
bound_value p os x = mapped constant_of (bound_expression p os x)

unfoldable pub bound_verdict : Pair → List ℕ → CondSlots → Result (Option Bool) FoldFault
bound_verdict p os c = mapped truth_of (bound_condition p os c)

-- an operand of which this is known
abbrev pub operand_with : Option Decimal → Operand
operand_with (Some c) = constant c
operand_with None = computed (e.Const origin)

-- of an operation on two operands of which this is known
abbrev pub operated_constants : Op → ℕ → Option Decimal → Option Decimal → Result (Option Decimal) FoldFault
operated_constants o place a b = mapped constant_of (operated o place (operand_with a) (operand_with b))

-- of a comparison of them
abbrev pub compared_constants : Bool → Rel → Option Decimal → Option Decimal → Option Bool
compared_constants polarity r a b = truth_of (compared polarity r (operand_with a) (operand_with b))
