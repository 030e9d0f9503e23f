-- Dead and live states, and those that a search may reach.
use Rattle.std.specs.Prelude.{ℕ, ◌≡◌, ◌⊎◌, List}
use Rattle.ground_task.specs.States.{StateValue}
use Rattle.ground_task.specs.Steps.{StepLeads}
use Rattle.ground_task.specs.Tasks.{TaskValue, first_state}
use Rattle.box_model.specs.Boxes.{Contains}
use Rattle.box_model.specs.Least.{IsDead}
use Rattle.box_model.specs.declared.state_box.StateBox.{StateBox}
use Rattle.search_runs.specs.Walks.{WalkThrough}

abbrev pub initial_state : TaskValue → StateValue
initial_state t = first_state t.raw t.places

-- some dead box contains the state
abbrev pub IsDeadState : TaskValue → StateValue → Type 0
IsDeadState t s = (b : StateBox) × IsDead t b × Contains t.places b s

abbrev pub IsLive : TaskValue → StateValue → Type 0
IsLive t s = IsDeadState t s → ⊥

-- some actions lead from the initial state to this one, through live states alone, both ends included
abbrev pub IsLiveReachable : TaskValue → StateValue → Type 0
IsLiveReachable t s =
    (actions : List ℕ) × WalkThrough (IsLive t) (StepLeads t) actions (initial_state t) s

-- a dead state one step from a live reachable one, or the initial state where it is dead
abbrev pub IsDeadNeighbour : TaskValue → StateValue → Type 0
IsDeadNeighbour t s =
    IsDeadState t s
    × ((s ≡ initial_state t) ⊎ ((p : StateValue) × (a : ℕ) × IsLiveReachable t p × StepLeads t a p s))
