-- What the answer of a search says of its task.
use Rattle.std.specs.Prelude.{ℕ, ◌≡◌, ◌<◌, ◌⊎◌, ◌↔◌, List, true, length}
use Rattle.ground_task.specs.declared.answers.Applied.TheVariants as step
use Rattle.ground_task.specs.declared.answers.Truth.TheVariants as truth
use Rattle.ground_task.specs.Ranged.{ranged_goal, ranged_step}
use Rattle.ground_task.specs.States.{StateValue}
use Rattle.ground_task.specs.Steps.{IsTaskPlan, PlanLeads}
use Rattle.ground_task.specs.Tasks.{TaskValue}
use Rattle.box_model.specs.declared.state_box.StateBox.{StateBox}
use Rattle.dead_ends.specs.Certificates.{IsProved}
use Rattle.dead_ends.specs.Reachable.{IsDeadNeighbour, IsLiveReachable, initial_state}
use Rattle.explored.specs.declared.classes.Most.{Most}
use Rattle.search_runs.specs.Answers.{closed_states, path_to}
use Rattle.search_runs.specs.Nodes.{Config}
use Rattle.search_runs.specs.Runs.{count_takes, has_starve}
use Rattle.search_runs.specs.Spaces.{AtMost, IsListed}
use Rattle.search_runs.specs.declared.answers.Answer.{Answer}
use Rattle.search_runs.specs.declared.answers.Answer.TheVariants as answer
use Rattle.search_runs.specs.declared.answers.Full.TheVariants.{States, Boxes}
use Rattle.search_runs.specs.declared.answers.Site.{Site}
use Rattle.search_runs.specs.declared.answers.Site.TheVariants as site
use Rattle.search_runs.specs.declared.events.Event.{Event}

-- a number leaves its range there
abbrev pub IsOverAt : TaskValue → StateValue → Site → Type 0
IsOverAt t s site.Goal = ranged_goal t s ≡ truth.Over
IsOverAt t s (site.Action a) = (a < length t.raw.actions) × (ranged_step t s a ≡ step.Over)

abbrev pub IsLiveOrNear : TaskValue → StateValue → Type 0
IsLiveOrNear t s = IsLiveReachable t s ⊎ IsDeadNeighbour t s

-- the path to the node is a plan; no plan exists, by a certificate whose states are the live reachable ones; the path
-- leads to a state at which a number leaves its range; more live reachable states than may be expanded; more states or
-- dead ones than may be kept; a worker starved
abbrev pub Claims : TaskValue → ℕ → Most → List Event → Config StateValue StateBox → Answer → Type 0
Claims t limit most j c (answer.Plan n) = IsTaskPlan t (path_to c.nodes n)
Claims t limit most j c answer.Exhausted =
    IsProved t c.boxes (closed_states c.nodes)
    × ((s : StateValue) → IsLiveReachable t s ↔ IsListed (closed_states c.nodes) s)
Claims t limit most j c (answer.Over n place) =
    (s : StateValue) × PlanLeads t (path_to c.nodes n) (initial_state t) s × IsOverAt t s place
Claims t limit most j c answer.Expansions = (count_takes j ≡ limit) × (AtMost limit (IsLiveReachable t) → ⊥)
Claims t limit most j c (answer.Filled States) = AtMost most.states (IsLiveOrNear t) → ⊥
Claims t limit most j c (answer.Filled Boxes) = AtMost most.boxes (IsDeadNeighbour t) → ⊥
Claims t limit most j c answer.Starved = has_starve j ≡ true
