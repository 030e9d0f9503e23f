-- Expressions and conditions with their names looked up, and negation moved inward.
use Rattle.std.specs.Prelude.{ℕ, Bool, true, false, not, List, [], ◌∷◌, map}
use Rattle.num_ends.specs.Decimal.{trimmed}
use Rattle.pddl_terms.specs.declared.names.Typed.{Typed}
use Rattle.pddl_terms.specs.declared.expressions.Expr.{Expr, Expr-F, fold-Expr}
use Rattle.pddl_terms.specs.declared.expressions.Expr.TheOpen as expression
use Rattle.pddl_terms.specs.declared.conditions.Cond.{Cond, Cond-F, fold-Cond}
use Rattle.pddl_terms.specs.declared.conditions.Cond.TheOpen as condition
use Rattle.pddl_types.specs.declared.pairs.Pair.{Pair}
use Rattle.bound_atoms.specs.Atoms.{fact_slots, fluent_slots}
use Rattle.bound_atoms.specs.Slots.{same_slots}
use Rattle.term_patterns.specs.declared.expressions.ExprSlots.{ExprSlots}
use Rattle.term_patterns.specs.declared.expressions.ExprSlots.TheVariants as e
use Rattle.term_patterns.specs.declared.slots.CondSlots.{CondSlots}
use Rattle.term_patterns.specs.declared.slots.CondSlots.TheVariants as c

-- an expression's place in its file, that of a read at its name, and the expression with its names looked up
abbrev pub placed_layer : Pair → List Typed → Expr-F (ℕ × ExprSlots) → ℕ × ExprSlots
placed_layer p params (expression.Lit d at) = (at, e.Literal (trimmed d))
placed_layer p params (expression.Read a) = (a.head.at, e.Read (fluent_slots p params a))
placed_layer p params (expression.Op at o x y) = (at, e.Op o y.0 x.1 y.1)

unfoldable pub placed_slots : Pair → List Typed → Expr → ℕ × ExprSlots
placed_slots p params = fold-Expr (ℕ × ExprSlots) (placed_layer p params)

abbrev pub expression_slots : Pair → List Typed → Expr → ExprSlots
expression_slots p params x = (placed_slots p params x).1

-- all of some members, or one of them
abbrev pub joined_slots : Bool → List CondSlots → CondSlots
joined_slots true members = c.All members
joined_slots false members = c.Any members

abbrev pub condition_slots_layer : Pair → List Typed → Cond-F (Bool → CondSlots) → Bool → CondSlots
condition_slots_layer p params (condition.And cs) polarity = joined_slots polarity (map (λ f. f polarity) cs)
condition_slots_layer p params (condition.Or cs) polarity = joined_slots (not polarity) (map (λ f. f polarity) cs)
condition_slots_layer p params (condition.Not f) polarity = f (not polarity)
condition_slots_layer p params (condition.Imply f g) polarity = joined_slots (not polarity) (f (not polarity) ∷ g polarity ∷ [])
condition_slots_layer p params (condition.Fact a) polarity = c.Fact polarity (fact_slots p params a)
condition_slots_layer p params (condition.Same a b) polarity = c.Same polarity (same_slots p params a b)
condition_slots_layer p params (condition.Cmp r x y) polarity = c.Compared polarity r (expression_slots p params x) (expression_slots p params y)

-- a condition, or at `false` its negation
unfoldable pub condition_slots : Pair → List Typed → Cond → Bool → CondSlots
condition_slots p params = fold-Cond (Bool → CondSlots) (condition_slots_layer p params)
