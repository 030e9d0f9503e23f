-- A task as a search sees it.
use Rattle.std.specs.Prelude.{ℕ, length}
use Rattle.ground_task.specs.declared.answers.Applied.{Applied}
use Rattle.ground_task.specs.declared.answers.Applied.TheVariants as step
use Rattle.ground_task.specs.declared.answers.Truth.{Truth}
use Rattle.ground_task.specs.declared.answers.Truth.TheVariants as truth
use Rattle.ground_task.specs.Ranged.{ranged_goal, ranged_step}
use Rattle.ground_task.specs.States.{StateValue}
use Rattle.ground_task.specs.Steps.{StepLeads}
use Rattle.ground_task.specs.Tasks.{IsStateOf, TaskValue}
use Rattle.box_model.specs.Boxes.{Contains}
use Rattle.box_model.specs.Least.{IsDead, IsLeastClosed}
use Rattle.box_model.specs.declared.state_box.StateBox.{StateBox}
use Rattle.dead_ends.specs.Reachable.{initial_state}
use Rattle.explored.specs.declared.classes.Most.{Most}
use Rattle.subgoal.specs.Estimates.{IsEstimate}
use Rattle.search_runs.specs.Spaces as runs
use Rattle.search_runs.specs.Spaces.{Space, Stepped}

abbrev pub truth_in : Truth → runs.Truth
truth_in truth.Yes = runs.Yes
truth_in truth.No = runs.No
truth_in truth.Over = runs.Overflow

abbrev pub stepped_in : Applied → Stepped StateValue
stepped_in step.Blocked = runs.Blocked
stepped_in step.Over = runs.Over
stepped_in (step.Next s) = runs.Next s

-- which box may be kept for a dead state
abbrev pub Keeping : Type 1
Keeping = TaskValue → StateValue → StateBox → Type 0

-- any dead box that contains it
abbrev pub AnyDead : Keeping
AnyDead t s b = IsDead t b × Contains t.places b s

-- its least closed box, which is dead then
abbrev pub LeastDead : Keeping
LeastDead t s b = IsLeastClosed t s b × IsDead t b

-- the task, where such boxes may be kept, with the bounds of a search: so many expansions, workers, states and boxes at most
abbrev pub space_by : Keeping → TaskValue → ℕ → ℕ → Most → Space StateValue StateBox
space_by Keeps t limit workers most = record {
  initial = initial_state t;
  IsState = IsStateOf t;
  actions = length t.raw.actions;
  Moves = StepLeads t;
  step = λ a s. stepped_in (ranged_step t s a);
  goal = λ s. truth_in (ranged_goal t s);
  Contains = Contains t.places;
  IsDead = IsDead t;
  IsEstimate = IsEstimate t;
  Keeps = Keeps t;
  most_states = most.states;
  most_boxes = most.boxes;
  workers = workers;
  limit = limit;
}

abbrev pub space_of : TaskValue → ℕ → ℕ → Most → Space StateValue StateBox
space_of = space_by AnyDead

-- one worker, and least closed boxes alone
abbrev pub plain_space_of : TaskValue → ℕ → Most → Space StateValue StateBox
plain_space_of t limit most = space_by LeastDead t limit 1 most
