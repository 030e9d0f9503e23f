-- Searches, and their events.
use Rattle.std.specs.Prelude.{ℕ, ◌≡◌, ◌<◌, List, [], ◌∷◌, ◌++◌, IsSome, None, length}
use Rattle.ground_task.specs.Placed.{IsPlaced}
use Rattle.ground_task.specs.States.{StateValue}
use Rattle.ground_task.specs.Tasks.{TaskValue}
use Rattle.box_model.specs.declared.state_box.StateBox.{StateBox}
use Rattle.explored.specs.declared.classes.Most.{Most}
use Rattle.search_runs.specs.Answers.{first_where, is_taken}
use Rattle.search_runs.specs.PlainRuns.{PlainRun}
use Rattle.search_runs.specs.Runs.{Leads, Run}
use Rattle.search_runs.specs.Spaces.{IsAt, Space}
use Rattle.search_runs.specs.declared.events.Event.{Event}
use Rattle.search_runs.specs.declared.events.Event.TheVariants.{Give, Start, Take}
use Rattle.search_runs.specs.declared.nodes.Node.{Node}
use Rattle.search_runs.specs.declared.nodes.Status.TheVariants as standing
use Rattle.search_nodes.specs.Tables.{Table, config_of}
use Rattle.search_nodes.specs.declared.views.Outcome.{Outcome}
use Rattle.search_turns.specs.declared.turns.Taken.{Taken}
use Rattle.search_turns.specs.declared.turns.Taken.TheVariants as taken
use Rattle.search_turns.specs.Turns.{IsNotYet, SameTerms, Turns, answer_in}
use Rattle.search_records.specs.Spaces.{Keeping, plain_space_of, space_of}
use Rattle.search_core.specs.Views.{AreRightOutcomes}

-- the task with the bounds of the search
abbrev pub space_in : Turns → Space StateValue StateBox
space_in v = space_of v.table.task v.limit v.workers v.table.most

-- its journal is a run that leads to its nodes, its boxes, its site and its mark
pub record IsSearch (v : Turns) : Type 0 where
  pub placed : IsPlaced v.table.task.raw v.table.task.places
  pub room : 0 < v.table.most.states
  pub box_room : 0 < v.table.most.boxes
  pub few_actions : length v.table.task.raw.actions < 1000000000
  pub run : Run (space_in v) v.journal (config_of v.table)

-- the search is begun, with these terms
pub record IsBegun (task : TaskValue) (limit workers : ℕ) (most : Most) (v : Turns) : Type 0 where
  pub task_is : v.table.task ≡ task
  pub most_is : v.table.most ≡ most
  pub limit_is : v.limit ≡ limit
  pub workers_is : v.workers ≡ workers
  pub journal : v.journal ≡ Start ∷ []

-- this event comes, and the terms stay
pub record IsEvent (e : Event) (old new : Turns) : Type 0 where
  pub terms : SameTerms old new
  pub journal : new.journal ≡ old.journal ++ e ∷ []
  pub leads : Leads (space_in old) old.journal (config_of old.table) e (config_of new.table)

-- what worker w gets that asks for a node
abbrev pub Gets : ℕ → Taken → Turns → Turns → Type 0
Gets w (taken.Job n s) old new =
    IsEvent (Take w n) old new × ((x : Node StateValue) × IsAt old.table.nodes n x × (x.state ≡ s))
Gets w (taken.NotYet k) old new = IsNotYet w k old new
Gets w taken.Done old new = (new ≡ old) × IsSome (answer_in old)

-- worker w has taken node n, which has this state
pub record HasTaken (w n : ℕ) (s : StateValue) (v : Turns) : Type 0 where
  pub node : Node StateValue
  pub there : IsAt v.table.nodes n node
  pub is_taken : node.status ≡ standing.Taken w
  pub state : node.state ≡ s

-- worker w has taken node n, and the outcomes are those of the ground actions in its state
pub record CanGive (Keeps : Keeping) (w n : ℕ) (outcomes : List Outcome) (v : Turns) : Type 0 where
  pub node : Node StateValue
  pub there : IsAt v.table.nodes n node
  pub is_taken : node.status ≡ standing.Taken w
  pub as_many : length outcomes ≡ length v.table.task.raw.actions
  pub right : AreRightOutcomes Keeps v.table node.state 0 outcomes

-- all outcomes of the state, in the order of the ground actions
abbrev pub AreAllOutcomes : Keeping → Table → StateValue → List Outcome → Type 0
AreAllOutcomes Keeps v s outcomes =
    (length outcomes ≡ length v.task.raw.actions) × AreRightOutcomes Keeps v s 0 outcomes

-- worker w gives what the ground actions lead to, where least closed boxes alone are kept
abbrev pub IsPlainlyGiven : ℕ → ℕ → Turns → Turns → Type 0
IsPlainlyGiven w n old new =
    Leads (plain_space_of old.table.task old.limit old.table.most) old.journal (config_of old.table) (Give w n) (config_of new.table)

-- there is one worker, which has taken no node now; least closed boxes alone were kept so far, a node was taken only where
-- none was, and before each event there was no answer
pub record IsPlainSearch (v : Turns) : Type 0 where
  pub one : v.workers ≡ 1
  pub none_taken : first_where is_taken v.table.nodes ≡ None
  pub plain : PlainRun (plain_space_of v.table.task v.limit v.table.most) v.journal (config_of v.table)
