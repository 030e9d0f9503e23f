-- Which fluents a ground task has, by their codes.
use Rattle.std.specs.Prelude.{ℕ, ◌↔◌, List}
use Rattle.std.specs.List.Sorted.{IsStrictlyIncreasing}
use Rattle.pddl_types.specs.WellFormed.{Stands}
use Rattle.ground_task.specs.declared.raw.Change.{Change}
use Rattle.ground_task.specs.declared.raw.GCond.{GCond}
use Rattle.ground_task.specs.declared.raw.Ground.{Ground}
use Rattle.ground_task.specs.Valid.{right_side}
use Rattle.ground_meaning.specs.Tasks.{condition_fluents, fluents_in}

-- the least set that has what the goal and the preconditions read, and what the effects on its members read
pub data IsReached (actions : List Ground) (goal : GCond) : ℕ → Type 0 where
  in_goal : (x : ℕ) → Stands x (condition_fluents goal) → IsReached actions goal x
  in_precondition : (a : Ground) (x : ℕ) → Stands a actions → Stands x (condition_fluents a.pre) → IsReached actions goal x
  in_change : (a : Ground) (y : ℕ) (change : Change) (x : ℕ) → Stands a actions → Stands (y, change) a.nums → IsReached actions goal y
      → Stands x (fluents_in (right_side change)) → IsReached actions goal x

-- exactly these fluents, rising
pub record AreRelevant (actions : List Ground) (goal : GCond) (codes : List ℕ) : Type 0 where
  pub rising : IsStrictlyIncreasing codes
  pub exactly : (x : ℕ) → Stands x codes ↔ IsReached actions goal x
