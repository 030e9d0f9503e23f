-- What stays as it was while events come, and when a node may be taken.
use Rattle.std.specs.Prelude.{ℕ, ◌≡◌, ◌≢◌, List, [], ◌∷◌, ⊤}
use Rattle.search_runs.specs.declared.events.Event.{Event}
use Rattle.search_runs.specs.declared.events.Event.TheVariants.{Take, Give}
use Rattle.search_runs.specs.declared.nodes.Node.{Node}
use Rattle.search_runs.specs.declared.nodes.Status.TheVariants.{Taken}
use Rattle.search_runs.specs.Spaces.{Space, IsAt}
use Rattle.search_runs.specs.Nodes.{Config}
use Rattle.search_runs.specs.Runs.{Leads, Run}

-- node n, as it was, has after the event its state, its parent and its action; where a worker had taken it, so
-- it has unless the event is that the worker gives it
pub record Stays {S B : Type 0} (e : Event) (n : ℕ) (x : Node S) (c : Config S B) : Type 0 where
  pub node : Node S
  pub there : IsAt c.nodes n node
  pub state : node.state ≡ x.state
  pub parent : node.parent ≡ x.parent
  pub via : node.via ≡ x.via
  pub taken : (w : ℕ) → x.status ≡ Taken w → e ≢ Give w n → node.status ≡ Taken w

-- the worker may take some node
abbrev pub MayTake : {S B : Type 0} → Space S B → List Event → Config S B → ℕ → Type 0
MayTake {S} {B} g j c w = (n : ℕ) × (c' : Config S B) × Leads g j c (Take w n) c'

-- the worker doesn't give the node among these events
abbrev pub NeverGives : ℕ → ℕ → List Event → Type 0
NeverGives w n [] = ⊤
NeverGives w n (e ∷ events) = (e ≢ Give w n) × NeverGives w n events

-- the events so far, of which the first ones lead to a configuration: a node that a worker has taken there is taken by
-- it, with its state, as long as it isn't given
pub record Continues {S B : Type 0} (g : Space S B) (j more : List Event) (c' : Config S B) : Type 0 where
  pub config : Config S B
  pub run : Run g j config
  pub taken : (w n : ℕ) (x : Node S) → IsAt config.nodes n x → x.status ≡ Taken w → NeverGives w n more
      → (y : Node S) × IsAt c'.nodes n y × (y.state ≡ x.state) × (y.status ≡ Taken w)
