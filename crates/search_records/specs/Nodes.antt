-- What the nodes of a search mean, and when two searches have the same.
use Rattle.std.specs.Prelude.{ℕ, ◌≡◌, ◌≢◌, ◌<◌, List}
use Rattle.ground_task.specs.declared.answers.Truth.TheVariants as truth
use Rattle.ground_task.specs.Ranged.{ranged_goal}
use Rattle.ground_task.specs.States.{StateValue}
use Rattle.ground_task.specs.Tasks.{TaskValue}
use Rattle.box_model.specs.Boxes.{Contains, LiesWithin}
use Rattle.box_model.specs.Least.{IsDead}
use Rattle.box_model.specs.declared.state_box.StateBox.{StateBox}
use Rattle.dead_ends.specs.Reachable.{IsDeadNeighbour, IsLiveReachable}
use Rattle.subgoal.specs.Estimates.{IsEstimate}
use Rattle.search_runs.specs.Spaces.{IsAt}
use Rattle.search_runs.specs.declared.nodes.Node.{Node}
use Rattle.search_runs.specs.declared.nodes.Status.{Status}
use Rattle.search_runs.specs.declared.nodes.Status.TheVariants.{Waiting, Taken, Closed, Goal, Dead}

-- what a status says of the node's state
abbrev pub IsRightStatus : TaskValue → ℕ → List StateBox → StateValue → Status → Type 0
IsRightStatus t workers boxes s (Waiting h) = IsLiveReachable t s × IsEstimate t s h × (ranged_goal t s ≢ truth.Yes)
IsRightStatus t workers boxes s (Taken w) = (w < workers) × IsLiveReachable t s × (ranged_goal t s ≢ truth.Yes)
IsRightStatus t workers boxes s Closed = IsLiveReachable t s × (ranged_goal t s ≢ truth.Yes)
IsRightStatus t workers boxes s Goal = IsLiveReachable t s × (ranged_goal t s ≡ truth.Yes)
IsRightStatus t workers boxes s (Dead b) =
    IsDeadNeighbour t s
    × ((box : StateBox) × IsAt boxes b box × IsDead t box × Contains t.places box s)

-- the nodes of the one are the nodes of the other: equal states, parents and actions
abbrev pub AreSameNodes : List (Node StateValue) → List (Node StateValue) → Type 0
AreSameNodes xs ys =
    (n : ℕ) (x : Node StateValue) → IsAt xs n x
    → (y : Node StateValue) × IsAt ys n y × (x.state ≡ y.state) × (x.parent ≡ y.parent) × (x.via ≡ y.via)

-- two boxes of the same states
abbrev pub AreWithinEachOther : StateBox → StateBox → Type 0
AreWithinEachOther b c = LiesWithin b c × LiesWithin c b
