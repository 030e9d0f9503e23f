-- The records of searches.
use Rattle.std.specs.Prelude.{ℕ, ◌≡◌, ◌<◌, ◌≤◌, List, All, Option, IfSome, length, ⊤}
use Rattle.ground_task.specs.States.{StateValue}
use Rattle.ground_task.specs.Tasks.{IsStateOf, TaskValue}
use Rattle.box_model.specs.Boxes.{IsBoxOf}
use Rattle.box_model.specs.declared.state_box.StateBox.{StateBox}
use Rattle.explored.specs.declared.classes.Most.{Most}
use Rattle.search_runs.specs.Answers.{answer_of}
use Rattle.search_runs.specs.Nodes.{Config}
use Rattle.search_runs.specs.PlainRuns.{IsPlainRun}
use Rattle.search_runs.specs.Runs.{Run}
use Rattle.search_runs.specs.Spaces.{IsAt}
use Rattle.search_runs.specs.declared.answers.Answer.{Answer}
use Rattle.search_runs.specs.declared.answers.Answer.TheVariants as answer
use Rattle.search_runs.specs.declared.answers.Site.{Site}
use Rattle.search_runs.specs.declared.answers.Site.TheVariants as site
use Rattle.search_runs.specs.declared.nodes.Node.{Node}
use Rattle.search_records.specs.Spaces.{plain_space_of, space_of}
use Rattle.search_records.specs.declared.record.Record.{Record}

-- so many states and so many dead boxes are kept at most
abbrev pub bounds : Most
bounds = record { states = 500000; boxes = 40000 }

abbrev pub config_of : Record → Config StateValue StateBox
config_of r = record { nodes = r.nodes; boxes = r.boxes; over = r.over; full = r.full }

-- the answer of the events and of what they led to
abbrev pub answer_in : Record → Option Answer
answer_in r = answer_of r.limit r.journal (config_of r)

-- The record is of this task and this limit. Its journal is a run by so many workers, which leads to its nodes, boxes, site
-- and mark, with such bounds.
pub record IsLegalWithin (most : Most) (task : TaskValue) (limit workers : ℕ) (r : Record) : Type 0 where
  pub task_is : r.task ≡ task
  pub limit_is : r.limit ≡ limit
  pub run : Run (space_of task limit workers most) r.journal (config_of r)

-- with the bounds of the program
abbrev pub IsLegal : TaskValue → ℕ → ℕ → Record → Type 0
IsLegal = IsLegalWithin bounds

-- it is legal for its own task and limit, and some number of workers
abbrev pub IsLegalRecord : Record → Type 0
IsLegalRecord r = (workers : ℕ) × IsLegal r.task r.limit workers r

-- A record as above, of one worker that takes a node only where none is taken, ends at the first answer, and keeps least closed boxes
-- alone.
pub record IsPlainWithin (most : Most) (task : TaskValue) (limit : ℕ) (r : Record) : Type 0 where
  pub task_is : r.task ≡ task
  pub limit_is : r.limit ≡ limit
  pub run : IsPlainRun (plain_space_of task limit most) r.journal (config_of r)

abbrev pub IsPlain : TaskValue → ℕ → Record → Type 0
IsPlain = IsPlainWithin bounds

-- the node is there, and the action is one of the task's
abbrev pub IsKnownSite : Record → ℕ → Site → Type 0
IsKnownSite r n site.Goal = n < length r.nodes
IsKnownSite r n (site.Action a) = (n < length r.nodes) × (a < length r.task.raw.actions)

-- what an answer names is there
abbrev pub IsKnownAnswer : Record → Answer → Type 0
IsKnownAnswer r (answer.Plan n) = n < length r.nodes
IsKnownAnswer r (answer.Over n place) = IsKnownSite r n place
IsKnownAnswer r answer.Exhausted = ⊤
IsKnownAnswer r answer.Expansions = ⊤
IsKnownAnswer r (answer.Filled full) = ⊤
IsKnownAnswer r answer.Starved = ⊤

-- the parent of each node but the first stands before it
abbrev pub AreParents : List (Node StateValue) → Type 0
AreParents nodes = (n : ℕ) (x : Node StateValue) → 0 < n → IsAt nodes n x → x.parent < n

-- Boxes and states are those of the task. The parent of each node but the first stands before it, and one of the task's
-- actions leads from there.
pub record IsSound (r : Record) : Type 0 where
  pub few_nodes : length r.nodes ≤ 1000000000
  pub few_boxes : length r.boxes ≤ 1000000000
  pub boxes : All (IsBoxOf r.task) r.boxes
  pub states : All (λ x. IsStateOf r.task x.state) r.nodes
  pub parents : AreParents r.nodes
  pub actions : (n : ℕ) (x : Node StateValue) → 0 < n → IsAt r.nodes n x → x.via < length r.task.raw.actions
  pub site : IfSome r.over (λ p. IsKnownSite r p.0 p.1)
