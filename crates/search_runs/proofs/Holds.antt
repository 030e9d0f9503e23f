-- What holds of a configuration, between the events and within one.
use Rattle.std.proofs.Common.{◌≡◌, ℕ, ◌<◌, ◌≤◌, ◌⊎◌, Bool, true, false, List, length, Option, None, Some}
use Rattle.std.specs.Prelude.{⊤, IsSome}
use Rattle.search_runs.specs.Answers.{count}
use Rattle.search_runs.specs.Meanings.{IsRightFor}
use Rattle.search_runs.specs.Nodes.{Config, IsNode, IsInNone}
use Rattle.search_runs.specs.Runs.{count_takes}
use Rattle.search_runs.specs.Spaces.{Yes, Overflow, Stepped, Blocked, Over, Next, Space, IsAt, IsDeadState}
use Rattle.search_runs.specs.declared.answers.Full.{Full}
use Rattle.search_runs.specs.declared.answers.Full.TheVariants.{States, Boxes}
use Rattle.search_runs.specs.declared.answers.Site.{Site}
use Rattle.search_runs.specs.declared.events.Event.{Event}
use Rattle.search_runs.specs.declared.nodes.Node.{Node}
use Rattle.search_runs.specs.declared.nodes.Status.{Status}
use Rattle.search_runs.specs.declared.nodes.Status.TheVariants.{Waiting, Taken, Closed, Dead, Goal}
use Rattle.search_runs.specs.declared.answers.Site.TheVariants as site

-- a node that isn't in a dead box
abbrev pub IsAlive : Status → Type 0
IsAlive (Waiting h) = ⊤
IsAlive (Taken w) = ⊤
IsAlive Closed = ⊤
IsAlive Goal = ⊤
IsAlive (Dead b) = ⊥

abbrev pub is_expanded : Status → Bool
is_expanded (Waiting h) = false
is_expanded (Taken w) = true
is_expanded Closed = true
is_expanded Goal = false
is_expanded (Dead b) = false

abbrev pub is_dead : Status → Bool
is_dead (Waiting h) = false
is_dead (Taken w) = false
is_dead Closed = false
is_dead Goal = false
is_dead (Dead b) = true

-- before the action a of node n comes; None: between events
abbrev pub IsPast : Option (ℕ × ℕ) → ℕ → ℕ → Type 0
IsPast None n a = ⊤
IsPast (Some p) n a = n ≡ p.0 → a < p.1

module _ {S B : Type 0} (g : Space S B) where
  pub record HasParent (nodes : List (Node S)) (n : ℕ) (x : Node S) : Type 0 where
    pub parent : Node S
    pub there : IsAt nodes x.parent parent
    pub below : x.parent < n
    pub closed : parent.status ≡ Closed
    pub leads : g.Moves x.via parent.state x.state

  -- nodes and their parents
  pub record IsTree (nodes : List (Node S)) : Type 0 where
    pub first : (x : Node S) → IsAt nodes 0 x → (x.state ≡ g.initial) × (x.parent ≡ 0) × (x.via ≡ 0)
    pub states : (n : ℕ) (x : Node S) → IsAt nodes n x → g.IsState x.state
    pub apart : (m n : ℕ) (x y : Node S) → IsAt nodes m x → IsAt nodes n y → x.state ≡ y.state → m ≡ n
    pub parents : (n : ℕ) (x : Node S) → 0 < n → IsAt nodes n x → HasParent nodes n x

  pub record AreClassed (nodes : List (Node S)) (boxes : List B) : Type 0 where
    pub classes : (n : ℕ) (x : Node S) → IsAt nodes n x → IsRightFor g boxes x.state x.status
    pub dead : (b : ℕ) (box : B) → IsAt boxes b box → g.IsDead box

  -- the step was noted, or its state is a node, or there is a mark
  abbrev pub IsMet : Config S B → Stepped S → Type 0
  IsMet c Blocked = ⊤
  IsMet c Over = IsSome c.over
  IsMet c (Next s) = IsNode c.nodes s ⊎ IsSome c.full

  pub record AreMet (c : Config S B) (pend : Option (ℕ × ℕ)) : Type 0 where
    pub steps : (n a : ℕ) (x : Node S) → IsAt c.nodes n x → x.status ≡ Closed → a < g.actions → IsPast pend n a → IsMet c (g.step a x.state)
    pub goals : (n : ℕ) (x : Node S) → IsAt c.nodes n x → IsAlive x.status → g.goal x.state ≡ Overflow → IsSome c.over

  abbrev pub IsSite : List (Node S) → ℕ → Site → Type 0
  IsSite nodes n site.Goal = (x : Node S) × IsAt nodes n x × IsAlive x.status × (g.goal x.state ≡ Overflow)
  IsSite nodes n (site.Action a) = (x : Node S) × IsAt nodes n x × (x.status ≡ Closed) × (a < g.actions) × (g.step a x.state ≡ Over)

  -- a step of an expanded node leads to a state like this
  abbrev pub LeadsBeyond : List (Node S) → (S → Type 0) → Type 0
  LeadsBeyond nodes P = (n : ℕ) × (x : Node S) × (a : ℕ) × (s : S) × IsAt nodes n x × (x.status ≡ Closed) × (a < g.actions) × (g.step a x.state ≡ Next s) × P s

  abbrev pub IsMark : Config S B → Full → Type 0
  IsMark c States = (length c.nodes ≡ g.most_states) × LeadsBeyond c.nodes (λ s. IsNode c.nodes s → ⊥)
  IsMark c Boxes = (length c.boxes ≡ g.most_boxes) × LeadsBeyond c.nodes (λ s. IsDeadState g s × IsInNone g c.boxes s)

  pub record AreNoted (c : Config S B) : Type 0 where
    pub site : (n : ℕ) (site : Site) → c.over ≡ Some (n, site) → IsSite c.nodes n site
    pub mark : (f : Full) → c.full ≡ Some f → IsMark c f

  pub record AreCounted (j : List Event) (c : Config S B) : Type 0 where
    pub takes : count_takes j ≡ count is_expanded c.nodes
    pub limit : count_takes j ≤ g.limit
    pub owned : length c.boxes ≤ count is_dead c.nodes
    pub states : length c.nodes ≤ g.most_states
    pub boxes : length c.boxes ≤ g.most_boxes

  pub record Holds (j : List Event) (c : Config S B) (pend : Option (ℕ × ℕ)) : Type 0 where
    pub tree : IsTree c.nodes
    pub classed : AreClassed c.nodes c.boxes
    pub met : AreMet c pend
    pub noted : AreNoted c
    pub counted : AreCounted j c

  -- what the steps with bounds say of those without
  pub record Laws : Type 0 where
    pub initial : g.IsState g.initial
    pub states : (a : ℕ) (s t : S) → g.IsState s → g.step a s ≡ Next t → g.IsState t
    pub next : (a : ℕ) (s t : S) → a < g.actions → g.step a s ≡ Next t → g.Moves a s t
    pub only : (a : ℕ) (s t u : S) → g.step a s ≡ Next t → g.Moves a s u → u ≡ t
    pub blocked : (a : ℕ) (s t : S) → g.step a s ≡ Blocked → g.Moves a s t → ⊥
    pub known : (a : ℕ) (s t : S) → g.Moves a s t → a < g.actions
    pub keeps : (s : S) (b : B) → g.Keeps s b → g.IsDead b × g.Contains b s
    pub goal_live : (s : S) → g.goal s ≡ Yes → IsDeadState g s → ⊥
    pub room : 0 < g.most_states
    pub box_room : 0 < g.most_boxes
