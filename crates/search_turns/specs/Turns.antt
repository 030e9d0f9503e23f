-- A search with its journal, as contracts see it.
use Rattle.std.specs.Prelude.{ℕ, zero, suc, ◌≡◌, ◌<◌, ◌≤◌, ◌+◌, ◌⊎◌, Bool, List, [], ◌∷◌, ◌++◌, None, Option, IsSome, if◌then◌else◌}
use Rattle.ground_task.specs.States.{StateValue}
use Rattle.box_model.specs.declared.state_box.StateBox.{StateBox}
use Rattle.search_runs.specs.Answers.{answer_of, count, is_taken}
use Rattle.search_runs.specs.Nodes.{Config, changed, nothing}
use Rattle.search_runs.specs.Runs.{Takes, count_takes, has_starve, has_starved}
use Rattle.search_runs.specs.Spaces.{IsAt}
use Rattle.search_runs.specs.declared.answers.Answer.{Answer}
use Rattle.search_runs.specs.declared.events.Event.TheVariants.{Start, Take, Give}
use Rattle.search_runs.specs.declared.nodes.Node.{Node}
use Rattle.search_runs.specs.declared.nodes.Status.TheVariants.{Closed}
use Rattle.search_nodes.specs.Growth.{AreMet, IsEntered}
use Rattle.ground_task.specs.Tasks.{TaskValue, first_state}
use Rattle.explored.specs.declared.classes.Most.{Most}
use Rattle.search_nodes.specs.declared.views.View.{View}
use Rattle.search_nodes.specs.declared.views.Outcome.{Outcome}
use Rattle.search_turns.specs.declared.turns.Taken.{Taken}
use Rattle.search_turns.specs.declared.turns.Taken.TheVariants as taken
use Rattle.search_runs.specs.declared.events.Event.{Event}
use Rattle.search_nodes.specs.Tables.{HasLeast, NoneWaits, Table, config_of}

pub record Turns : Type 0 where
  pub table : Table
  pub limit : ℕ
  pub workers : ℕ
  pub journal : List Event

-- how many of the workers below this number haven't starved
abbrev pub count_unstarved : ℕ → List Event → ℕ
count_unstarved zero j = 0
count_unstarved (suc w) j = (if has_starved w j then 0 else 1) + count_unstarved w j

-- what is counted, and that the journal has room for each worker that may still starve
pub record AreCounted (j : List Event) (limit workers takes : ℕ) (starved : Bool) (len capacity : ℕ) : Type 0 where
  pub takes_are : takes ≡ count_takes j
  pub few_takes : takes ≤ limit
  pub starved_is : starved ≡ has_starve j
  pub few_workers : workers ≤ 1000000
  pub room : len + count_unstarved workers j ≤ capacity

-- the task, the bounds, the limit and the workers stay
pub record SameTerms (old new : Turns) : Type 0 where
  pub task : new.table.task ≡ old.table.task
  pub most : new.table.most ≡ old.table.most
  pub limit : new.limit ≡ old.limit
  pub workers : new.workers ≡ old.workers

-- a node may be taken: there is no mark, the limit isn't reached, and this node is the waiting one that comes first
abbrev pub CanTake : Turns → ℕ → Type 0
CanTake t n = (t.table.full ≡ None) × (count_takes t.journal < t.limit) × HasLeast t.table.nodes n

abbrev pub CantTake : Turns → Type 0
CantTake t = IsSome t.table.full ⊎ (t.limit ≤ count_takes t.journal) ⊎ NoneWaits t.table.nodes

abbrev pub answer_in : Turns → Option Answer
answer_in t = answer_of t.limit t.journal (config_of t.table)

-- worker w takes node n, and gets its state
pub record IsTaken (w n : ℕ) (s : StateValue) (old new : Turns) : Type 0 where
  pub takes : Takes old.workers old.limit old.journal (config_of old.table) w n (config_of new.table)
  pub journal : new.journal ≡ old.journal ++ Take w n ∷ []
  pub node : Node StateValue
  pub there : IsAt old.table.nodes n node
  pub state : node.state ≡ s

-- there is no answer, no node may be taken, and so many are taken
pub record IsNotYet (w k : ℕ) (old new : Turns) : Type 0 where
  pub unchanged : new ≡ old
  pub no_answer : answer_in old ≡ None
  pub none : (n : ℕ) (c : Config StateValue StateBox) → Takes old.workers old.limit old.journal (config_of old.table) w n c → ⊥
  pub count_is : k ≡ count is_taken old.table.nodes
  pub some : 0 < k

-- what worker w gets
abbrev pub IsJob : ℕ → Taken → Turns → Turns → Type 0
IsJob w (taken.Job n s) old new = IsTaken w n s old new
IsJob w (taken.NotYet k) old new = IsNotYet w k old new
IsJob w taken.Done old new = (new ≡ old) × IsSome (answer_in old)

-- worker w gives what the actions of node n do
pub record IsGiven (w n : ℕ) (outcomes : List Outcome) (old new : Turns) : Type 0 where
  pub met : AreMet old.table.task.places old.table.most n 0 outcomes (changed n Closed (config_of old.table)) (config_of new.table)
  pub journal : new.journal ≡ old.journal ++ Give w n ∷ []

-- the initial state became node 0, by its view, and nothing else is there
pub record HasFirst (task : TaskValue) (most : Most) (found : View) (table : Table) : Type 0 where
  pub task_is : table.task ≡ task
  pub most_is : table.most ≡ most
  pub entered : IsEntered task.places most (first_state task.raw task.places) 0 0 found nothing (config_of table)

-- the initial state became node 0, by its view, and nothing else happened
pub record IsStarted (task : TaskValue) (limit workers : ℕ) (most : Most) (found : View) (new : Turns) : Type 0 where
  pub task_is : new.table.task ≡ task
  pub most_is : new.table.most ≡ most
  pub limit_is : new.limit ≡ limit
  pub workers_is : new.workers ≡ workers
  pub entered : IsEntered task.places most (first_state task.raw task.places) 0 0 found nothing (config_of new.table)
  pub journal : new.journal ≡ Start ∷ []
