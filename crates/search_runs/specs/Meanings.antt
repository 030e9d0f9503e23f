-- What the nodes and the answer of a run mean.
use Rattle.std.specs.Prelude.{ℕ, ◌≡◌, ◌≢◌, ◌<◌, ◌⊎◌, ◌↔◌, List, true}
use Rattle.search_runs.specs.declared.answers.Answer.{Answer}
use Rattle.search_runs.specs.declared.answers.Answer.TheVariants.{Plan, Exhausted, Expansions, Filled, Starved}
use Rattle.search_runs.specs.declared.answers.Answer.TheVariants as answer
use Rattle.search_runs.specs.declared.answers.Full.TheVariants.{States, Boxes}
use Rattle.search_runs.specs.declared.answers.Site.{Site}
use Rattle.search_runs.specs.declared.answers.Site.TheVariants as site
use Rattle.search_runs.specs.declared.events.Event.{Event}
use Rattle.search_runs.specs.declared.nodes.Node.{Node}
use Rattle.search_runs.specs.declared.nodes.Status.{Status}
use Rattle.search_runs.specs.declared.nodes.Status.TheVariants.{Waiting, Taken, Closed, Goal, Dead}
use Rattle.search_runs.specs.Spaces.{Yes, No, Overflow, Blocked, Over, Next, Space, IsAt, IsListed, AtMost, Walk, IsLiveReachable, IsDeadNeighbour}
use Rattle.search_runs.specs.Nodes.{Config}
use Rattle.search_runs.specs.Runs.{count_takes, has_starve}
use Rattle.search_runs.specs.Answers.{path_to, closed_states}

module _ {S B : Type 0} (g : Space S B) where
  -- what a status says of the node's state
  abbrev pub IsRightFor : List B → S → Status → Type 0
  IsRightFor boxes s (Waiting h) = IsLiveReachable g s × g.IsEstimate s h × (g.goal s ≢ Yes)
  IsRightFor boxes s (Taken w) = (w < g.workers) × IsLiveReachable g s × (g.goal s ≢ Yes)
  IsRightFor boxes s Closed = IsLiveReachable g s × (g.goal s ≢ Yes)
  IsRightFor boxes s Goal = IsLiveReachable g s × (g.goal s ≡ Yes)
  IsRightFor boxes s (Dead b) =
      IsDeadNeighbour g s × ((box : B) × IsAt boxes b box × g.IsDead box × g.Contains box s)

  -- the state is on the list, or in a box of the other list
  abbrev pub IsCovered : List B → List S → S → Type 0
  IsCovered boxes states s =
      IsListed states s ⊎ ((b : ℕ) × (box : B) × IsAt boxes b box × g.Contains box s)

  -- Boxes and states from which no plan leads on, with no number out of its range: the boxes are dead, the
  -- goal holds in none of the states, and each action of each state is blocked or leads to a covered state.
  -- The initial state is covered.
  pub record IsProved (boxes : List B) (states : List S) : Type 0 where
    pub dead : (b : ℕ) (box : B) → IsAt boxes b box → g.IsDead box
    pub misses : (s : S) → IsListed states s → g.goal s ≡ No
    pub steps : (s : S) (a : ℕ) → IsListed states s → a < g.actions
        → (g.step a s ≡ Blocked) ⊎ ((next : S) × (g.step a s ≡ Next next) × IsCovered boxes states next)
    pub initial : IsCovered boxes states g.initial

  -- a number leaves its range there
  abbrev pub IsOverAt : S → Site → Type 0
  IsOverAt s site.Goal = g.goal s ≡ Overflow
  IsOverAt s (site.Action a) = (a < g.actions) × (g.step a s ≡ Over)

  abbrev pub IsLiveOrNear : S → Type 0
  IsLiveOrNear s = IsLiveReachable g s ⊎ IsDeadNeighbour g s

  -- the path leads to the node's state
  pub record IsPathTo (nodes : List (Node S)) (n : ℕ) (s : S) : Type 0 where
    pub node : Node S
    pub there : IsAt nodes n node
    pub is_state : node.state ≡ s
    pub leads : Walk g (path_to nodes n) g.initial s

  -- a plan; no plan, and the closed states are exactly the live reachable ones; a number that leaves its
  -- range; more live reachable states than may be expanded; more states or dead ones than may be kept
  abbrev pub Means : List Event → Config S B → Answer → Type 0
  Means j c (Plan n) = (s : S) × IsPathTo c.nodes n s × (g.goal s ≡ Yes)
  Means j c Exhausted =
      IsProved c.boxes (closed_states c.nodes)
      × ((s : S) → IsLiveReachable g s ↔ IsListed (closed_states c.nodes) s)
  Means j c (answer.Over n place) = (s : S) × IsPathTo c.nodes n s × IsOverAt s place
  Means j c Expansions = (count_takes j ≡ g.limit) × (AtMost g.limit (IsLiveReachable g) → ⊥)
  Means j c (Filled States) = AtMost g.most_states IsLiveOrNear → ⊥
  Means j c (Filled Boxes) = AtMost g.most_boxes (IsDeadNeighbour g) → ⊥
  Means j c Starved = has_starve j ≡ true
