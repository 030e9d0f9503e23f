-- The folded goal, and why there is none.
use Rattle.std.specs.Prelude.{ℕ, ◌≡◌, List, Some, None, Ok, Err, codes}
use Rattle.pddl_types.specs.declared.faults.Side.TheVariants as side
use Rattle.pddl_types.specs.declared.pairs.Pair.{Pair}
use Rattle.coded_actions.specs.declared.coded.CodedCond.{CodedCond}
use Rattle.coded_actions.specs.Coded.{condition_of}
use Rattle.ground_meaning.specs.declared.faults.GroundFault.{GroundFault}
use Rattle.ground_meaning.specs.declared.faults.GroundFault.TheVariants as fault
use Rattle.ground_meaning.specs.Expressions.{FoldFault}
use Rattle.ground_meaning.specs.Conditions.{Settled, as_condition}
use Rattle.ground_meaning.specs.Goals.{folded_goal, unset_in_goal}
use Rattle.ground_meaning.specs.Outcomes.{fold_refusal}

-- each fluent that the goal reads has a first value, and this is what the goal folds to
pub record IsGoal (p : Pair) (c : CodedCond) : Type 0 where
  pub settled : Settled
  pub all_set : unset_in_goal p ≡ None
  pub folds : folded_goal p ≡ Ok settled
  pub is : condition_of c ≡ as_condition settled

-- the first fluent without first value, or else the fault of the fold; nothing is said where memory is wanting
pub data IsGoalFault (p : Pair) : GroundFault → Type 0 where
  unset : (text : List ℕ) → unset_in_goal p ≡ Some text → IsGoalFault p (fault.Unset text)
  unfolded : (f : FoldFault) → unset_in_goal p ≡ None → folded_goal p ≡ Err f → IsGoalFault p (fold_refusal side.Problem (codes "goal") f)
  by_memory : IsGoalFault p fault.NoMemory
