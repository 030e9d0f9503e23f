-- What expressions and conditions whose names are looked up fold to under a binding.
use Rattle.std.specs.Prelude.{ℕ, Bool, true, false, List, Result, Ok, unwrap_or, if◌then◌else◌}
use Rattle.num_ends.specs.Decimal.{origin}
use Rattle.pddl_terms.specs.declared.conditions.Rel.{Rel}
use Rattle.pddl_types.specs.declared.pairs.Pair.{Pair}
use Rattle.pddl_meaning.specs.Truth.{at_polarity}
use Rattle.ground_task.specs.declared.raw.GExpr.TheVariants as e
use Rattle.ground_task.specs.declared.raw.GCond.TheVariants as c
use Rattle.bound_atoms.specs.declared.atoms.AtomSlots.{AtomSlots}
use Rattle.bound_atoms.specs.Atoms.{slots_code, slots_truth, slots_value}
use Rattle.bound_atoms.specs.Slots.{same_number}
use Rattle.ground_meaning.specs.Results.{after, all_answers, mapped}
use Rattle.ground_meaning.specs.Expressions.{FoldFault, Operand, operated}
use Rattle.ground_meaning.specs.Expressions.Operand.{constant, computed}
use Rattle.ground_meaning.specs.Conditions.{Settled, all_of, any_of, compared}
use Rattle.ground_meaning.specs.Conditions.Settled.{decided, remaining}
use Rattle.term_patterns.specs.declared.expressions.ExprSlots.{ExprSlots, ExprSlots-F, fold-ExprSlots}
use Rattle.term_patterns.specs.declared.expressions.ExprSlots.TheOpen as expression
use Rattle.term_patterns.specs.declared.slots.CondSlots.{CondSlots, CondSlots-F, fold-CondSlots}
use Rattle.term_patterns.specs.declared.slots.CondSlots.TheOpen as condition

abbrev pub bound_read : Pair → List ℕ → AtomSlots → Operand
bound_read p os q = if q.symbol.fixed then constant (unwrap_or (slots_value p os q) origin) else computed (e.Read (slots_code os q.symbol.number q.slots))

abbrev pub bound_expression_layer : Pair → List ℕ → ExprSlots-F (Result Operand FoldFault) → Result Operand FoldFault
bound_expression_layer p os (expression.Literal d) = Ok (constant d)
bound_expression_layer p os (expression.Read q) = Ok (bound_read p os q)
bound_expression_layer p os (expression.Op o place x y) = after (λ a. after (λ b. operated o place a b) y) x

unfoldable pub bound_expression : Pair → List ℕ → ExprSlots → Result Operand FoldFault
bound_expression p os = fold-ExprSlots (Result Operand FoldFault) (bound_expression_layer p os)

abbrev pub bound_fact : Pair → List ℕ → Bool → AtomSlots → Settled
bound_fact p os polarity q =
    if q.symbol.fixed then decided (at_polarity polarity (slots_truth p os q)) else remaining (c.Fact (slots_code os q.symbol.number q.slots) polarity)

abbrev pub bound_comparison : Pair → List ℕ → Bool → Rel → ExprSlots → ExprSlots → Result Settled FoldFault
bound_comparison p os polarity r x y = after (λ a. mapped (λ b. compared polarity r a b) (bound_expression p os y)) (bound_expression p os x)

-- all of some folded conditions, or at `false` one of them
abbrev pub joins : Bool → List Settled → Settled
joins true = all_of
joins false = any_of

abbrev pub bound_condition_layer : Pair → List ℕ → CondSlots-F (Result Settled FoldFault) → Result Settled FoldFault
bound_condition_layer p os (condition.All cs) = mapped all_of (all_answers cs)
bound_condition_layer p os (condition.Any cs) = mapped any_of (all_answers cs)
bound_condition_layer p os (condition.Fact polarity q) = Ok (bound_fact p os polarity q)
bound_condition_layer p os (condition.Same polarity s) = Ok (decided (at_polarity polarity (same_number os s)))
bound_condition_layer p os (condition.Compared polarity r x y) = bound_comparison p os polarity r x y

unfoldable pub bound_condition : Pair → List ℕ → CondSlots → Result Settled FoldFault
bound_condition p os = fold-CondSlots (Result Settled FoldFault) (bound_condition_layer p os)
