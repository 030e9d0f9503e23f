-- When no binding refuses a pair, and what its goal folds to.
use Rattle.std.specs.Prelude.{ℕ, ◌≡◌, ◌≤◌, true, not, List, [], Option, None, find, is_some, length, option_map, Result, Ok}
use Rattle.pddl_terms.specs.declared.limits.TheConstants.{MAX_OBJECTS}
use Rattle.pddl_types.specs.declared.pairs.Pair.{Pair}
use Rattle.pddl_types.specs.Contents.{all_read, condition_parts}
use Rattle.pddl_types.specs.Pairs.{objects_of}
use Rattle.static_facts.specs.Atoms.{atom_of, text_of_atom, value_at_first}
use Rattle.ground_meaning.specs.Expressions.{FoldFault}
use Rattle.ground_meaning.specs.Conditions.{Settled, folded_condition}
use Rattle.ground_meaning.specs.Outcomes.{first_refused, outcomes}

unfoldable pub folded_goal : Pair → Result Settled FoldFault
folded_goal p = folded_condition p [] [] p.problem.goal true

-- the first fluent in the goal, in the order of the text, that has no first value
unfoldable pub unset_in_goal : Pair → Option (List ℕ)
unset_in_goal p =
    option_map (λ a. text_of_atom (atom_of [] [] a))
    (find (λ a. not (is_some (value_at_first p (atom_of [] [] a)))) (all_read (condition_parts p.problem.goal).numbers))

-- no binding refuses the pair
pub record AreBound (p : Pair) : Type 0 where
  pub few_objects : length (objects_of p) ≤ MAX_OBJECTS
  pub none_refused : first_refused 0 (outcomes p) ≡ None

-- and the goal folds
pub record IsFolded (p : Pair) (goal : Settled) : Type 0 where
  pub bound : AreBound p
  pub all_set : unset_in_goal p ≡ None
  pub folds : folded_goal p ≡ Ok goal
