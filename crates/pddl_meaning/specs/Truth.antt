-- The truth of conditions in a world, and the literals among their top conjuncts.
use Rattle.std.specs.Prelude.{ℕ, ◌&&◌, ◌||◌, Bool, true, false, not, List, [], Option, Some, None, is_some, bytes_eq, if◌then◌else◌}
use Rattle.std.specs.Option.{option_map_or}
use Rattle.std.specs.List.{list_all, list_any}
use Rattle.std.specs.FinSet as set
use Rattle.num_ends.specs.Decimal.{Decimal, is_less, is_at_most, is_same_value}
use Rattle.pddl_terms.specs.declared.names.Typed.{Typed}
use Rattle.pddl_terms.specs.declared.expressions.Expr.{Expr}
use Rattle.pddl_terms.specs.declared.conditions.Rel.{Rel}
use Rattle.pddl_terms.specs.declared.conditions.Rel.TheVariants.{Less, LessEqual, Equal, GreaterEqual, Greater}
use Rattle.pddl_terms.specs.declared.conditions.Cond.{Cond, Cond-F, fold-Cond}
use Rattle.pddl_terms.specs.declared.conditions.Cond.TheOpen as condition
use Rattle.pddl_types.specs.declared.pairs.Pair.{Pair}
use Rattle.pddl_meaning.specs.declared.answers.Holds.{Holds}
use Rattle.pddl_meaning.specs.declared.answers.Holds.TheVariants as answer
use Rattle.pddl_terms.specs.Texts.{argument_text, ground_text}
use Rattle.pddl_meaning.specs.Worlds.{WorldValue}
use Rattle.num_ends.specs.Range.{operands_fit}
use Rattle.pddl_meaning.specs.Values.{value_of, ranged_value, reads_defined}

-- ---- comparisons

abbrev pub stands : Rel → Decimal → Decimal → Bool
stands Less a b = is_less a b
stands LessEqual a b = is_at_most a b
stands Equal a b = is_same_value a b
stands GreaterEqual a b = is_at_most b a
stands Greater a b = is_less b a

-- a test of two values, false where one is missing
abbrev pub both : (Decimal → Decimal → Bool) → Option Decimal → Option Decimal → Bool
both test x y = option_map_or (λ a. option_map_or (test a) y false) x false

abbrev pub comparisons_layer : (Expr → Expr → Bool) → Cond-F Bool → Bool
comparisons_layer test (condition.And cs) = list_all (λ c. c) cs
comparisons_layer test (condition.Or cs) = list_all (λ c. c) cs
comparisons_layer test (condition.Not c) = c
comparisons_layer test (condition.Imply b c) = b && c
comparisons_layer test (condition.Fact a) = true
comparisons_layer test (condition.Same a b) = true
comparisons_layer test (condition.Cmp r e f) = test e f

-- the two sides of each comparison in a condition, wherever it stands, pass a test
unfoldable pub each_comparison : (Expr → Expr → Bool) → Cond → Bool
each_comparison test = fold-Cond Bool (comparisons_layer test)

-- each fluent that a condition reads is defined
abbrev pub is_defined : List Typed → List (List ℕ) → WorldValue → Cond → Bool
is_defined params args w = each_comparison (λ e f. reads_defined params args w e && reads_defined params args w f)

-- each expression of a condition has a value
abbrev pub is_valued : List Typed → List (List ℕ) → WorldValue → Cond → Bool
is_valued params args w = each_comparison (λ e f. is_some (value_of params args w e) && is_some (value_of params args w f))

-- no subvalue of a comparison leaves the range, nor do its sides at the larger of their counts of places
abbrev pub is_in_bounds : List Typed → List (List ℕ) → WorldValue → Cond → Bool
is_in_bounds params args w = each_comparison (λ e f. both operands_fit (ranged_value params args w e) (ranged_value params args w f))

-- ---- truth

abbrev pub truth_layer : List Typed → List (List ℕ) → WorldValue → Cond-F Bool → Bool
truth_layer params args w (condition.And cs) = list_all (λ c. c) cs
truth_layer params args w (condition.Or cs) = list_any (λ c. c) cs
truth_layer params args w (condition.Not c) = not c
truth_layer params args w (condition.Imply b c) = not b || c
truth_layer params args w (condition.Fact a) = set.contains w.facts (ground_text params args a)
truth_layer params args w (condition.Same a b) = bytes_eq (argument_text params args a) (argument_text params args b)
truth_layer params args w (condition.Cmp r e f) = both (stands r) (value_of params args w e) (value_of params args w f)

-- a condition by cases
unfoldable pub is_true : List Typed → List (List ℕ) → WorldValue → Cond → Bool
is_true params args w = fold-Cond Bool (truth_layer params args w)

-- a condition holds where all its expressions have values and it is true
abbrev pub holds : List Typed → List (List ℕ) → WorldValue → Cond → Bool
holds params args w c = is_valued params args w c && is_true params args w c

-- the truth of a condition whose comparisons are in range, none of them skipped
abbrev pub ranged_truth : List Typed → List (List ℕ) → WorldValue → Cond → Holds
ranged_truth params args w c =
    if not (is_in_bounds params args w c) then answer.Over
    else (if is_true params args w c then answer.Yes else answer.No)

-- ---- top conjuncts

-- a truth value, or at the polarity `false` the other one
abbrev pub at_polarity : Bool → Bool → Bool
at_polarity true truth = truth
at_polarity false truth = not truth

abbrev pub literals_layer : List Typed → List (List ℕ) → WorldValue → Cond-F (Bool → Bool) → Bool → Bool
literals_layer params args w (condition.And cs) polarity = not polarity || list_all (λ c. c true) cs
literals_layer params args w (condition.Or cs) polarity = polarity || list_all (λ c. c false) cs
literals_layer params args w (condition.Not c) polarity = c (not polarity)
literals_layer params args w (condition.Imply b c) polarity = polarity || (b true && c false)
literals_layer params args w (condition.Fact a) polarity = at_polarity polarity (set.contains w.facts (ground_text params args a))
literals_layer params args w (condition.Same a b) polarity = at_polarity polarity (bytes_eq (argument_text params args a) (argument_text params args b))
literals_layer params args w (condition.Cmp r e f) polarity = true

-- with negation moved inward, each top conjunct that is a fact, an equality of objects or the negation of one is true;
-- at the polarity `false` those of the condition's negation
unfoldable pub literals_true : List Typed → List (List ℕ) → WorldValue → Cond → Bool → Bool
literals_true params args w = fold-Cond (Bool → Bool) (literals_layer params args w)

-- ---- the goal

-- the goal holds, without bounds
abbrev pub goal_holds : Pair → WorldValue → Bool
goal_holds p w = holds [] [] w p.problem.goal

-- the goal within the range; one that reads an undefined fluent doesn't hold
unfoldable pub ranged_goal : Pair → WorldValue → Holds
ranged_goal p w = if is_defined [] [] w p.problem.goal then ranged_truth [] [] w p.problem.goal else answer.No
