-- The events of a search as a relation, and its runs.
use Rattle.std.specs.Prelude.{ℕ, zero, suc, ◌≡◌, ◌≢◌, ◌<◌, ◌≤◌, ◌⊎◌, ◌==◌, ◌||◌, Bool, true, false, List, [], ◌∷◌, ◌++◌, length, None}
use Rattle.search_runs.specs.declared.answers.Full.TheVariants.{States, Boxes}
use Rattle.search_runs.specs.declared.answers.Site.TheVariants as site
use Rattle.search_runs.specs.declared.events.Event.{Event}
use Rattle.search_runs.specs.declared.events.Event.TheVariants.{Start, Take, Give, Starve}
use Rattle.search_runs.specs.declared.nodes.Node.{Node}
use Rattle.search_runs.specs.declared.nodes.Status.TheVariants.{Waiting, Taken, Closed, Goal, Dead}
use Rattle.search_runs.specs.Spaces.{Yes, No, Overflow, Stepped, Blocked, Over, Next, Space, IsAt, IsDeadState, IsLive}
use Rattle.search_runs.specs.Nodes.{Config, IsNode, noted, marked, added, keeping, changed, nothing, IsInNone, IsFirstIn}

abbrev pub count_takes : List Event → ℕ
count_takes [] = 0
count_takes (Start ∷ j) = count_takes j
count_takes (Take w n ∷ j) = suc (count_takes j)
count_takes (Give w n ∷ j) = count_takes j
count_takes (Starve w ∷ j) = count_takes j

-- some worker starved
abbrev pub has_starve : List Event → Bool
has_starve [] = false
has_starve (Start ∷ j) = has_starve j
has_starve (Take w n ∷ j) = has_starve j
has_starve (Give w n ∷ j) = has_starve j
has_starve (Starve w ∷ j) = true

-- this worker starved
abbrev pub has_starved : ℕ → List Event → Bool
has_starved v [] = false
has_starved v (Start ∷ j) = has_starved v j
has_starved v (Take w n ∷ j) = has_starved v j
has_starved v (Give w n ∷ j) = has_starved v j
has_starved v (Starve w ∷ j) = w == v || has_starved v j

module _ {S : Type 0} where
  -- node n waits with estimate h, and comes first by estimate and number
  pub record IsLeastWaiting (nodes : List (Node S)) (n h : ℕ) : Type 0 where
    pub node : Node S
    pub there : IsAt nodes n node
    pub waits : node.status ≡ Waiting h
    pub least : (m k : ℕ) (other : Node S) → IsAt nodes m other → other.status ≡ Waiting k
        → (h < k) ⊎ ((h ≡ k) × (n ≤ m))

module _ {S B : Type 0} where
  -- worker w takes node n
  pub record Takes (workers limit : ℕ) (j : List Event) (c : Config S B) (w n : ℕ) (c' : Config S B) : Type 0 where
    pub worker : w < workers
    pub no_goal : (m : ℕ) (x : Node S) → IsAt c.nodes m x → x.status ≢ Goal
    pub no_mark : c.full ≡ None
    pub below : count_takes j < limit
    pub none_starved : has_starve j ≡ false
    pub h : ℕ
    pub is_least : IsLeastWaiting c.nodes n h
    pub after : c' ≡ changed n (Taken w) c

  -- worker w starves
  pub record Starves (workers : ℕ) (j : List Event) (c : Config S B) (w : ℕ) (c' : Config S B) : Type 0 where
    pub worker : w < workers
    pub once : has_starved w j ≡ false
    pub after : c' ≡ c

module _ {S B : Type 0} (g : Space S B) where
  -- A state that is no node's becomes one, by its class; or there is no room, and that is marked.
  pub data Enters (s : S) (parent via : ℕ) (c c' : Config S B) : Type 0 where
    no_room : length c.nodes ≡ g.most_states → c' ≡ marked States c → Enters s parent via c c'
    -- dead, by the first kept box that contains it
    in_kept : (b : ℕ) → length c.nodes < g.most_states → IsFirstIn g c.boxes s b
        → c' ≡ added s parent via (Dead b) c → Enters s parent via c c'
    no_box : length c.nodes < g.most_states → IsInNone g c.boxes s → IsDeadState g s
        → length c.boxes ≡ g.most_boxes → c' ≡ marked Boxes c → Enters s parent via c c'
    -- dead, by a box that is kept from now on
    in_own : (b : B) → length c.nodes < g.most_states → IsInNone g c.boxes s → g.Keeps s b
        → length c.boxes < g.most_boxes
        → c' ≡ added s parent via (Dead (length c.boxes)) (keeping b c) → Enters s parent via c c'
    reaches : length c.nodes < g.most_states → g.goal s ≡ Yes
        → c' ≡ added s parent via Goal c → Enters s parent via c c'
    waits : (h : ℕ) → length c.nodes < g.most_states → IsLive g s → g.IsEstimate s h → g.goal s ≡ No
        → c' ≡ added s parent via (Waiting h) c → Enters s parent via c c'
    waits_over : (h : ℕ) → length c.nodes < g.most_states → IsLive g s → g.IsEstimate s h
        → g.goal s ≡ Overflow
        → c' ≡ noted (length c.nodes) site.Goal (added s parent via (Waiting h) c)
        → Enters s parent via c c'

  -- what an action of node n leads to is taken in
  abbrev pub Meets : ℕ → ℕ → Stepped S → Config S B → Config S B → Type 0
  Meets n a Blocked c c' = c' ≡ c
  Meets n a Over c c' = c' ≡ noted n (site.Action a) c
  Meets n a (Next s) c c' =
      (IsNode c.nodes s × (c' ≡ c)) ⊎ ((IsNode c.nodes s → ⊥) × Enters s n a c c')

  -- so many actions, from the action a on, in their order
  abbrev pub Gives : ℕ → S → ℕ → ℕ → Config S B → Config S B → Type 0
  Gives n s a zero c c' = c' ≡ c
  Gives n s a (suc left) c c' =
      (mid : Config S B) × Meets n a (g.step a s) c mid × Gives n s (suc a) left mid c'

  -- worker w gives what the actions of node n lead to
  pub record Given (c : Config S B) (w n : ℕ) (c' : Config S B) : Type 0 where
    pub node : Node S
    pub there : IsAt c.nodes n node
    pub taken : node.status ≡ Taken w
    pub after : Gives n node.state 0 g.actions (changed n Closed c) c'

  -- after the events so far, this event leads from the one configuration to the other
  abbrev pub Leads : List Event → Config S B → Event → Config S B → Type 0
  Leads j c Start c' = ⊥
  Leads j c (Take w n) c' = Takes g.workers g.limit j c w n c'
  Leads j c (Give w n) c' = Given c w n c'
  Leads j c (Starve w) c' = Starves g.workers j c w c'

  -- the events lead from nothing to the configuration
  pub data Run : List Event → Config S B → Type 0 where
    starts : (c : Config S B) → Enters g.initial 0 0 nothing c → Run (Start ∷ []) c
    goes_on : (j : List Event) (c : Config S B) (e : Event) (c' : Config S B) → Run j c
        → Leads j c e c' → Run (j ++ e ∷ []) c'
