-- The nodes of a search and what it keeps, as contracts see them.
use Rattle.std.specs.Prelude.{ℕ, ◌≡◌, ◌≢◌, ◌≤◌, ◌↔◌, List, Option, All, IsTrue, length, map}
use Rattle.std.specs.FinSet as set
use Rattle.ground_task.specs.States.{StateValue}
use Rattle.ground_task.specs.Tasks.{TaskValue}
use Rattle.box_model.specs.Boxes.{IsBoxOf}
use Rattle.box_model.specs.declared.state_box.StateBox.{StateBox}
use Rattle.open_list.specs.Frontier.{Frontier}
use Rattle.explored.specs.Kept.{Kept}
use Rattle.explored.specs.declared.classes.Most.{Most}
use Rattle.search_runs.specs.Answers.{count, first_where, is_goal, is_taken}
use Rattle.search_runs.specs.Nodes.{Config}
use Rattle.search_runs.specs.Runs.{IsLeastWaiting}
use Rattle.search_runs.specs.Spaces.{IsAt}
use Rattle.search_runs.specs.declared.answers.Full.{Full}
use Rattle.search_runs.specs.declared.answers.Site.{Site}
use Rattle.search_runs.specs.declared.nodes.Node.{Node}
use Rattle.search_runs.specs.declared.nodes.Status.TheVariants.{Waiting, Taken, Goal}
use Rattle.search_nodes.specs.declared.nodes.Rest.{Rest}

pub record Table : Type 0 where
  pub task : TaskValue
  pub most : Most
  pub nodes : List (Node StateValue)
  pub boxes : List StateBox
  pub over : Option (ℕ × Site)
  pub full : Option Full

abbrev pub config_of : Table → Config StateValue StateBox
config_of t = record { nodes = t.nodes; boxes = t.boxes; over = t.over; full = t.full }

-- the same task and bounds
abbrev pub WithConfig : Config StateValue StateBox → Table → Table
WithConfig c t = record t { nodes = c.nodes; boxes = c.boxes; over = c.over; full = c.full }

abbrev pub WithNodes : List (Node StateValue) → Table → Table
WithNodes nodes t = record t { nodes = nodes }

-- the state is no node's
abbrev pub IsNew : List (Node StateValue) → StateValue → Type 0
IsNew nodes s = All (λ x. x.state ≢ s) nodes

abbrev pub node_of : StateValue × Rest → Node StateValue
node_of e = record { state = e.0; parent = e.1.parent; via = e.1.via; status = e.1.status }

-- node n is no goal node
abbrev pub IsOther : List (Node StateValue) → ℕ → Type 0
IsOther nodes n = (x : Node StateValue) → IsAt nodes n x → x.status ≢ Goal

-- worker w has taken node n
abbrev pub IsTakenBy : ℕ → List (Node StateValue) → ℕ → Type 0
IsTakenBy w nodes n = (x : Node StateValue) × IsAt nodes n x × (x.status ≡ Taken w)

abbrev pub NoneWaits : List (Node StateValue) → Type 0
NoneWaits nodes = (h n : ℕ) (x : Node StateValue) → IsAt nodes n x → x.status ≡ Waiting h → ⊥

-- node n is the waiting node that comes first
abbrev pub HasLeast : List (Node StateValue) → ℕ → Type 0
HasLeast nodes n = (h : ℕ) × IsLeastWaiting nodes n h

-- the frontier has the nodes that wait, with their estimates
abbrev pub IsFrontierOf : Frontier → List (Node StateValue) → Type 0
IsFrontierOf frontier nodes =
    (h n : ℕ) → IsTrue (set.contains frontier (h, n)) ↔ ((x : Node StateValue) × IsAt nodes n x × (x.status ≡ Waiting h))

-- what the parts have to do with one another
pub record IsTable (task : TaskValue) (most : Most) (table : List (StateValue × Rest)) (explored : Kept) (frontier : Frontier) (goal : Option ℕ) (taken : ℕ) : Type 0 where
  pub few_states : most.states ≤ 1000000000
  pub few_boxes : most.boxes ≤ 1000000000
  pub states : length table ≤ most.states
  pub boxes : length explored.boxes ≤ most.boxes
  pub of_task : All (IsBoxOf task) explored.boxes
  pub waiting : IsFrontierOf frontier (map node_of table)
  pub reached : goal ≡ first_where is_goal (map node_of table)
  pub held : taken ≡ count is_taken (map node_of table)
