-- What a node's actions lead to is taken in, by what is found out of each next state.
use Rattle.std.specs.Prelude.{ℕ, suc, ◌≡◌, ◌<◌, ◌⊎◌, List, [], ◌∷◌, ◌++◌, length, ⊤}
use Rattle.ground_task.specs.States.{StateValue}
use Rattle.ground_task.specs.Tasks.{TaskValue}
use Rattle.box_model.specs.Boxes.{Contains, IsBoxOf}
use Rattle.box_model.specs.declared.state_box.StateBox.{StateBox}
use Rattle.explored.specs.declared.classes.Class.{Class}
use Rattle.explored.specs.declared.classes.Class.TheVariants as class
use Rattle.explored.specs.declared.classes.Most.{Most}
use Rattle.explored.specs.declared.classes.Seen.{Seen}
use Rattle.explored.specs.declared.classes.Seen.TheVariants as seen
use Rattle.search_runs.specs.KeptBoxes.{IsInNone, IsFirstIn}
use Rattle.search_runs.specs.Nodes.{Config, IsNode, noted, marked, added, keeping}
use Rattle.search_runs.specs.declared.answers.Full.TheVariants.{States, Boxes}
use Rattle.search_runs.specs.declared.answers.Site.TheVariants as site
use Rattle.search_runs.specs.declared.nodes.Node.{Node}
use Rattle.search_runs.specs.declared.nodes.Status.{Status}
use Rattle.search_runs.specs.declared.nodes.Status.TheVariants.{Waiting, Goal, Dead}
use Rattle.search_nodes.specs.Tables.{Table}
use Rattle.search_nodes.specs.declared.views.Outcome.{Outcome}
use Rattle.search_nodes.specs.declared.views.Outcome.TheVariants.{Blocked, Over, Known, InKept, Next}
use Rattle.search_nodes.specs.declared.views.View.{View}
use Rattle.search_nodes.specs.declared.views.View.TheVariants as view

abbrev pub Configs : Type 0
Configs = Config StateValue StateBox

-- a dead state: it lies in a kept box, the first that contains it, or its own box is kept, or there is no room for it
abbrev pub IsDeadEntered : List ℕ → Most → StateValue → ℕ → ℕ → StateBox → Configs → Configs → Type 0
IsDeadEntered places most s parent via own c c' =
    ((b : ℕ) × IsFirstIn (Contains places) c.boxes s b × (c' ≡ added s parent via (Dead b) c))
    ⊎ (IsInNone (Contains places) c.boxes s
    × (((length c.boxes ≡ most.boxes) × (c' ≡ marked Boxes c))
    ⊎ ((length c.boxes < most.boxes) × (c' ≡ added s parent via (Dead (length c.boxes)) (keeping own c)))))

abbrev pub IsEnteredBy : List ℕ → Most → StateValue → ℕ → ℕ → View → Configs → Configs → Type 0
IsEnteredBy places most s parent via view.Goal c c' = c' ≡ added s parent via Goal c
IsEnteredBy places most s parent via (view.Dead own) c c' = IsDeadEntered places most s parent via own c c'
IsEnteredBy places most s parent via (view.Live h) c c' = c' ≡ added s parent via (Waiting h) c
IsEnteredBy places most s parent via (view.LiveOver h) c c' =
    c' ≡ noted (length c.nodes) site.Goal (added s parent via (Waiting h) c)

-- the state becomes a node, by its view, or there is no room
abbrev pub IsEntered : List ℕ → Most → StateValue → ℕ → ℕ → View → Configs → Configs → Type 0
IsEntered places most s parent via found c c' =
    ((length c.nodes ≡ most.states) × (c' ≡ marked States c))
    ⊎ ((length c.nodes < most.states) × IsEnteredBy places most s parent via found c c')

-- a state that lies in a kept box becomes a node, by the first that contains it, or there is no room; where none
-- contains it nothing happens
abbrev pub IsKeptEntered : List ℕ → Most → StateValue → ℕ → ℕ → Configs → Configs → Type 0
IsKeptEntered places most s parent via c c' =
    ((length c.nodes ≡ most.states) × (c' ≡ marked States c))
    ⊎ ((length c.nodes < most.states)
    × (((b : ℕ) × IsFirstIn (Contains places) c.boxes s b × (c' ≡ added s parent via (Dead b) c))
    ⊎ (IsInNone (Contains places) c.boxes s × (c' ≡ c))))

-- action a of node n does this
abbrev pub IsMet : List ℕ → Most → ℕ → ℕ → Outcome → Configs → Configs → Type 0
IsMet places most n a Blocked c c' = c' ≡ c
IsMet places most n a Over c c' = c' ≡ noted n (site.Action a) c
IsMet places most n a (Known m) c c' = c' ≡ c
IsMet places most n a (InKept s) c c' =
    (IsNode c.nodes s × (c' ≡ c)) ⊎ ((IsNode c.nodes s → ⊥) × IsKeptEntered places most s n a c c')
IsMet places most n a (Next s found) c c' =
    (IsNode c.nodes s × (c' ≡ c)) ⊎ ((IsNode c.nodes s → ⊥) × IsEntered places most s n a found c c')

-- the actions of node n, from a on, do these, in their order
abbrev pub AreMet : List ℕ → Most → ℕ → ℕ → List Outcome → Configs → Configs → Type 0
AreMet places most n a [] c c' = c' ≡ c
AreMet places most n a (o ∷ os) c c' = (mid : Configs) × IsMet places most n a o c mid × AreMet places most n (suc a) os mid c'

-- the box of a dead state is a box of the task
abbrev pub FitsView : TaskValue → View → Type 0
FitsView t view.Goal = ⊤
FitsView t (view.Dead own) = IsBoxOf t own
FitsView t (view.Live h) = ⊤
FitsView t (view.LiveOver h) = ⊤

abbrev pub FitsState : TaskValue → StateValue → Type 0
FitsState t s = (length s.facts ≡ length t.raw.facts) × (length s.values ≡ length t.raw.fluents)

abbrev pub FitsOutcome : TaskValue → Outcome → Type 0
FitsOutcome t Blocked = ⊤
FitsOutcome t Over = ⊤
FitsOutcome t (Known m) = ⊤
FitsOutcome t (InKept s) = FitsState t s
FitsOutcome t (Next s found) = FitsState t s × FitsView t found

-- the parts of a view
abbrev pub seen_in : View → Seen
seen_in view.Goal = seen.Goal
seen_in (view.Dead own) = seen.Dead own
seen_in (view.Live h) = seen.Live
seen_in (view.LiveOver h) = seen.LiveOver

abbrev pub estimate_in : View → ℕ
estimate_in view.Goal = 0
estimate_in (view.Dead own) = 0
estimate_in (view.Live h) = h
estimate_in (view.LiveOver h) = h

abbrev pub status_in : Class → ℕ → Status
status_in class.Goal h = Goal
status_in (class.Dead b) h = Dead b
status_in class.Waits h = Waiting h

-- the nodes and the boxes that were there stand first
pub record Extends (c c' : Configs) : Type 0 where
  pub nodes : List (Node StateValue)
  pub boxes : List StateBox
  pub more_nodes : c'.nodes ≡ c.nodes ++ nodes
  pub more_boxes : c'.boxes ≡ c.boxes ++ boxes

-- the same task and bounds
pub record SameTerms (old new : Table) : Type 0 where
  pub task : new.task ≡ old.task
  pub most : new.most ≡ old.most
