-- When a search must find a plan, or that there is none.
use Rattle.std.specs.Prelude.{ℕ, ⊤}
use Rattle.ground_task.specs.States.{StateValue}
use Rattle.ground_task.specs.Tasks.{TaskValue}
use Rattle.dead_ends.specs.Reachable.{IsDeadNeighbour, IsLiveReachable}
use Rattle.explored.specs.declared.classes.Most.{Most}
use Rattle.search_runs.specs.Spaces.{AtMost}
use Rattle.search_runs.specs.declared.answers.Answer.{Answer}
use Rattle.search_runs.specs.declared.answers.Answer.TheVariants as answer
use Rattle.search_runs.specs.declared.answers.Site.{Site}
use Rattle.search_records.specs.Claims.{IsLiveOrNear, IsOverAt}

-- the limit and the bounds leave room for all that may be reached, and no number leaves its range in a live reachable state
pub record HasRoom (t : TaskValue) (limit : ℕ) (most : Most) : Type 0 where
  pub expansions : AtMost limit (IsLiveReachable t)
  pub states : AtMost most.states (IsLiveOrNear t)
  pub boxes : AtMost most.boxes (IsDeadNeighbour t)
  pub in_range : (s : StateValue) (p : Site) → IsLiveReachable t s → IsOverAt t s p → ⊥

-- a plan, or that there is none
abbrev pub IsDecided : Answer → Type 0
IsDecided (answer.Plan n) = ⊤
IsDecided answer.Exhausted = ⊤
IsDecided (answer.Over n place) = ⊥
IsDecided answer.Expansions = ⊥
IsDecided (answer.Filled full) = ⊥
IsDecided answer.Starved = ⊥
