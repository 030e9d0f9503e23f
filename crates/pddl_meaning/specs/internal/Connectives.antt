-- How the answers for the parts of a condition are joined: what is over in one part is over in the whole.
use Rattle.std.specs.Prelude.{ℕ, Bool, List, Some, fold, if◌then◌else◌}
use Rattle.num_ends.specs.Decimal.{Decimal}
use Rattle.pddl_terms.specs.declared.names.Typed.{Typed}
use Rattle.pddl_terms.specs.declared.expressions.Expr.{Expr}
use Rattle.pddl_terms.specs.declared.conditions.Rel.{Rel}
use Rattle.pddl_terms.specs.declared.conditions.Cond.{Cond}
use Rattle.pddl_meaning.specs.declared.answers.Holds.{Holds}
use Rattle.pddl_meaning.specs.declared.answers.Holds.TheVariants.{Yes, No, Over}
use Rattle.pddl_meaning.specs.Worlds.{WorldValue}
use Rattle.num_ends.specs.Range.{operands_fit}
use Rattle.pddl_meaning.specs.Values.{ranged_value}
use Rattle.pddl_meaning.specs.Truth.{both, stands}

abbrev pub truth_of : Bool → Holds
truth_of b = if b then Yes else No

abbrev pub not_of : Holds → Holds
not_of Yes = No
not_of No = Yes
not_of Over = Over

abbrev pub both_of : Holds → Holds → Holds
both_of Over x = Over
both_of Yes x = x
both_of No Over = Over
both_of No Yes = No
both_of No No = No

abbrev pub either_of : Holds → Holds → Holds
either_of Over x = Over
either_of No x = x
either_of Yes Over = Over
either_of Yes Yes = Yes
either_of Yes No = Yes

abbrev pub truth_of_all : (Cond → Holds) → Holds → List Cond → Holds
truth_of_all truth done cs = fold (λ answer c. both_of answer (truth c)) done cs

abbrev pub truth_of_any : (Cond → Holds) → Holds → List Cond → Holds
truth_of_any truth done cs = fold (λ answer c. either_of answer (truth c)) done cs

-- two values compared, within the range
abbrev pub compared : Rel → Decimal → Decimal → Holds
compared r a b = if operands_fit a b then truth_of (stands r a b) else Over

-- a comparison within the range
abbrev pub comparison : List Typed → List (List ℕ) → WorldValue → Rel → Expr → Expr → Holds
comparison params args w r e f =
    if both operands_fit (ranged_value params args w e) (ranged_value params args w f) then truth_of (both (stands r) (ranged_value params args w e) (ranged_value params args w f))
    else Over
