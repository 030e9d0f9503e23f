-- Conditions with their constants folded: what is fixed is decided, and what is left is simplified by it alone.
use Rattle.std.specs.Prelude.{ℕ, Bool, true, false, not, List, [], ◌∷◌, map, flat_map, bytes_eq, Result, Ok, if◌then◌else◌}
use Rattle.std.specs.List.{list_any}
use Rattle.pddl_terms.specs.declared.names.Atom.{Atom}
use Rattle.pddl_terms.specs.declared.names.Typed.{Typed}
use Rattle.pddl_terms.specs.declared.expressions.Expr.{Expr}
use Rattle.pddl_terms.specs.declared.conditions.Rel.{Rel}
use Rattle.pddl_terms.specs.declared.conditions.Rel.TheVariants as rel
use Rattle.pddl_terms.specs.declared.conditions.Cond.{Cond, Cond-F, fold-Cond}
use Rattle.pddl_terms.specs.declared.conditions.Cond.TheOpen as condition
use Rattle.pddl_terms.specs.Texts.{argument_text}
use Rattle.pddl_types.specs.declared.pairs.Pair.{Pair}
use Rattle.static_facts.specs.Atoms.{atom_of, is_true_at_first}
use Rattle.static_facts.specs.Fixed.{is_fixed_predicate}
use Rattle.static_facts.specs.Codes.{fact_code}
use Rattle.pddl_meaning.specs.Truth.{at_polarity, stands}
use Rattle.ground_task.specs.declared.raw.Rel.TheVariants as relation
use Rattle.ground_task.specs.declared.raw.GExpr.{GExpr}
use Rattle.ground_task.specs.declared.raw.GCond.{GCond, GCond-F, out-GCond}
use Rattle.ground_task.specs.declared.raw.GCond.TheOpen as layer
use Rattle.ground_task.specs.declared.raw.GCond.TheVariants as c
use Rattle.ground_task.specs.Ranged.{top_conjuncts}
use Rattle.ground_meaning.specs.Results.{after, all_answers, mapped}
use Rattle.ground_meaning.specs.Expressions.{FoldFault, Operand, as_expression, folded}
use Rattle.ground_meaning.specs.Expressions.Operand.{constant, computed}

-- a folded condition: a truth value, or what is left, in which no constant stands as a member
pub data Settled : Type 0 where
  decided : Bool → Settled
  remaining : GCond → Settled

abbrev pub as_condition : Settled → GCond
as_condition (decided true) = c.True
as_condition (decided false) = c.False
as_condition (remaining g) = g

-- ---- conjunctions and disjunctions

abbrev pub is_decided : Bool → Settled → Bool
is_decided truth (decided true) = truth
is_decided truth (decided false) = not truth
is_decided truth (remaining g) = false

abbrev pub disjuncts_layer : GCond → GCond-F GCond → List GCond
disjuncts_layer g layer.True = g ∷ []
disjuncts_layer g layer.False = g ∷ []
disjuncts_layer g (layer.Fact f truth) = g ∷ []
disjuncts_layer g (layer.Cmp r a b) = g ∷ []
disjuncts_layer g (layer.And cs) = g ∷ []
disjuncts_layer g (layer.Or cs) = cs

-- the members of an outermost disjunction, or the condition itself
abbrev pub top_disjuncts : GCond → List GCond
top_disjuncts g = disjuncts_layer g (out-GCond g)

-- what isn't decided, with the members of each
abbrev pub remaining_members : (GCond → List GCond) → Settled → List GCond
remaining_members members (decided truth) = []
remaining_members members (remaining g) = members g

-- of no members a truth value, of one that member, and of several their conjunction or disjunction
abbrev pub joined : Bool → (List GCond → GCond) → List GCond → Settled
joined empty make [] = decided empty
joined empty make (g ∷ []) = remaining g
joined empty make (g ∷ h ∷ gs) = remaining (make (g ∷ h ∷ gs))

-- false where one is false; the true ones are left out, and the members of conjunctions taken in
abbrev pub all_of : List Settled → Settled
all_of cs = if list_any (is_decided false) cs then decided false else joined true c.And (flat_map (remaining_members top_conjuncts) cs)

-- true where one is true; the false ones are left out, and the members of disjunctions taken in
abbrev pub any_of : List Settled → Settled
any_of cs = if list_any (is_decided true) cs then decided true else joined false c.Or (flat_map (remaining_members top_disjuncts) cs)

-- ---- comparisons

-- a comparison, or at `false` its negation; that of `=` is `<` or `>`
abbrev pub comparison : Bool → Rel → GExpr → GExpr → GCond
comparison true rel.Less a b = c.Cmp relation.Less a b
comparison true rel.LessEqual a b = c.Cmp relation.LessEqual a b
comparison true rel.Equal a b = c.Cmp relation.Equal a b
comparison true rel.GreaterEqual a b = c.Cmp relation.GreaterEqual a b
comparison true rel.Greater a b = c.Cmp relation.Greater a b
comparison false rel.Less a b = c.Cmp relation.GreaterEqual a b
comparison false rel.LessEqual a b = c.Cmp relation.Greater a b
comparison false rel.Equal a b = c.Or (c.Cmp relation.Less a b ∷ c.Cmp relation.Greater a b ∷ [])
comparison false rel.GreaterEqual a b = c.Cmp relation.Less a b
comparison false rel.Greater a b = c.Cmp relation.LessEqual a b

-- a comparison of two constants is decided, also where they have no common count of places within the range
abbrev pub compared : Bool → Rel → Operand → Operand → Settled
compared polarity r (constant a) (constant b) = decided (at_polarity polarity (stands r a b))
compared polarity r (constant a) (computed h) = remaining (comparison polarity r (as_expression (constant a)) h)
compared polarity r (computed g) b = remaining (comparison polarity r g (as_expression b))

-- ---- conditions

-- a fact of a fixed predicate is decided by the initial state
abbrev pub folded_fact : Pair → List Typed → List (List ℕ) → Atom → Bool → Settled
folded_fact p params args a polarity =
    if is_fixed_predicate p a.head.text then decided (at_polarity polarity (is_true_at_first p (atom_of params args a)))
    else remaining (c.Fact (fact_code p (atom_of params args a)) polarity)

abbrev pub folded_comparison : Pair → List Typed → List (List ℕ) → Rel → Expr → Expr → Bool → Result Settled FoldFault
folded_comparison p params args r x y polarity =
    after (λ a. mapped (λ b. compared polarity r a b) (folded p params args y)) (folded p params args x)

-- all members are folded, from left to right, before any is left out
abbrev pub condition_layer : Pair → List Typed → List (List ℕ) → Cond-F (Bool → Result Settled FoldFault) → Bool → Result Settled FoldFault
condition_layer p params args (condition.And cs) true = mapped all_of (all_answers (map (λ f. f true) cs))
condition_layer p params args (condition.And cs) false = mapped any_of (all_answers (map (λ f. f false) cs))
condition_layer p params args (condition.Or cs) true = mapped any_of (all_answers (map (λ f. f true) cs))
condition_layer p params args (condition.Or cs) false = mapped all_of (all_answers (map (λ f. f false) cs))
condition_layer p params args (condition.Not f) polarity = f (not polarity)
condition_layer p params args (condition.Imply f g) true = mapped any_of (all_answers (f false ∷ g true ∷ []))
condition_layer p params args (condition.Imply f g) false = mapped all_of (all_answers (f true ∷ g false ∷ []))
condition_layer p params args (condition.Fact a) polarity = Ok (folded_fact p params args a polarity)
condition_layer p params args (condition.Same a b) polarity =
    Ok (decided (at_polarity polarity (bytes_eq (argument_text params args a) (argument_text params args b))))
condition_layer p params args (condition.Cmp r x y) polarity = folded_comparison p params args r x y polarity

-- a condition folded, or at `false` its negation, with negation moved inward
unfoldable pub folded_condition : Pair → List Typed → List (List ℕ) → Cond → Bool → Result Settled FoldFault
folded_condition p params args = fold-Cond (Bool → Result Settled FoldFault) (condition_layer p params args)
