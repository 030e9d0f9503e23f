-- How the meaning within the range and that without bounds belong together.
use Rattle.std.specs.Prelude.{ℕ, ◌≡◌, false, List, IsTrue}
use Rattle.pddl_types.specs.declared.pairs.Pair.{Pair}
use Rattle.pddl_meaning.specs.declared.answers.Holds.{Holds}
use Rattle.pddl_meaning.specs.declared.answers.Holds.TheVariants as truth
use Rattle.pddl_meaning.specs.declared.answers.Stepped.{Stepped}
use Rattle.pddl_meaning.specs.declared.answers.Stepped.TheVariants as answer
use Rattle.pddl_meaning.specs.Worlds.{WorldValue}
use Rattle.pddl_meaning.specs.Truth.{goal_holds}
use Rattle.pddl_meaning.specs.Steps.{IsStep}

-- an answer within the range says what the step without bounds does: the next world is the one to which it leads, and where the
-- action is blocked or illegal it leads nowhere
abbrev pub Agrees : Pair → WorldValue → List ℕ → List (List ℕ) → Stepped → Type 0
Agrees p w name args (answer.Next next) = IsStep p w name args next × ((other : WorldValue) → IsStep p w name args other → other ≡ next)
Agrees p w name args answer.Blocked = (next : WorldValue) → IsStep p w name args next → ⊥
Agrees p w name args answer.Illegal = (next : WorldValue) → IsStep p w name args next → ⊥
Agrees p w name args answer.Over = Unit {0}

-- an answer within the range says whether the goal holds without bounds
abbrev pub GoalAgrees : Pair → WorldValue → Holds → Type 0
GoalAgrees p w truth.Yes = IsTrue (goal_holds p w)
GoalAgrees p w truth.No = goal_holds p w ≡ false
GoalAgrees p w truth.Over = Unit {0}
