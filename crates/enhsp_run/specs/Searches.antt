-- How a search of accepted texts ends.
use Rattle.std.specs.Prelude.{ℕ, ◌≡◌, ◌≤◌, List}
use Rattle.dead_ends.specs.Reachable.{IsDeadState, initial_state}
use Rattle.ground_task.specs.Tasks.{TaskValue}
use Rattle.pair_task.specs.Tasks.{IsTaskOf}
use Rattle.plan_command.specs.Found.{HasPlan}
use Rattle.search_records.specs.Complete.{HasRoom}
use Rattle.search_records.specs.Records.{bounds}

-- status 0 where the texts have a plan, and 1 where they have none
pub data Decides (domain problem : List ℕ) : ℕ → Type 0 where
  solved : HasPlan domain problem → Decides domain problem 0
  unsolvable : (HasPlan domain problem → ⊥) → Decides domain problem 1

-- with so many expansions at most
pub record SearchEnds (domain problem : List ℕ) (limit status : ℕ) : Type 0 where
  -- a plan, no plan, a limit, or a number out of its range
  pub known : status ≤ 3
  -- Where the limit and the bounds leave room for all that may be reached, and no number leaves its range there, it is decided
  -- whether there is a plan.
  pub with_room : (task : TaskValue) → IsTaskOf domain problem task → HasRoom task limit bounds → Decides domain problem status
  -- where the initial state is dead, there is none
  pub dead : (task : TaskValue) → IsTaskOf domain problem task → IsDeadState task (initial_state task) → status ≡ 1
