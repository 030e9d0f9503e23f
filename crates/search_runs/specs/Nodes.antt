-- The nodes and the boxes of a search.
use Rattle.std.specs.Prelude.{ℕ, zero, suc, ◌≡◌, List, [], ◌∷◌, ◌++◌, Option, Some, None}
use Rattle.search_runs.specs.declared.answers.Full.{Full}
use Rattle.search_runs.specs.declared.answers.Site.{Site}
use Rattle.search_runs.specs.declared.nodes.Node.{Node}
use Rattle.search_runs.specs.declared.nodes.Status.{Status}
use Rattle.search_runs.specs.declared.nodes.Status.TheVariants.{Closed}
use Rattle.search_runs.specs.KeptBoxes as kept
use Rattle.search_runs.specs.Spaces.{Space, IsAt}

-- the nodes in the order in which they came, the kept dead boxes in theirs, the first site at which a
-- number left its range, and the first thing for which there was no room
pub record Config (S B : Type 0) : Type 0 where
  pub nodes : List (Node S)
  pub boxes : List B
  pub over : Option (ℕ × Site)
  pub full : Option Full

-- the nodes, with another status of the n-th
abbrev pub with_status : {S : Type 0} → List (Node S) → ℕ → Status → List (Node S)
with_status [] n st = []
with_status (x ∷ xs) zero st = record x { status = st } ∷ xs
with_status (x ∷ xs) (suc n) st = x ∷ with_status xs n st

-- the first that was noted stays
abbrev pub or_else : {X : Type 0} → Option X → X → Option X
or_else None x = Some x
or_else (Some y) x = Some y

-- the state is a node's
abbrev pub IsNode : {S : Type 0} → List (Node S) → S → Type 0
IsNode {S} nodes s = (n : ℕ) × (x : Node S) × IsAt nodes n x × (x.state ≡ s)

-- the state is a closed node's
abbrev pub IsClosed : {S : Type 0} → List (Node S) → S → Type 0
IsClosed {S} nodes s =
    (n : ℕ) × (x : Node S) × IsAt nodes n x × (x.state ≡ s) × (x.status ≡ Closed)

module _ {S B : Type 0} where
  abbrev pub noted : ℕ → Site → Config S B → Config S B
  noted n site c = record c { over = or_else c.over (n, site) }

  abbrev pub marked : Full → Config S B → Config S B
  marked f c = record c { full = or_else c.full f }

  abbrev pub added : S → ℕ → ℕ → Status → Config S B → Config S B
  added s parent via st c =
      record c { nodes = c.nodes ++ record { state = s; parent = parent; via = via; status = st } ∷ [] }

  abbrev pub keeping : B → Config S B → Config S B
  keeping b c = record c { boxes = c.boxes ++ b ∷ [] }

  abbrev pub changed : ℕ → Status → Config S B → Config S B
  changed n st c = record c { nodes = with_status c.nodes n st }

  abbrev pub nothing : Config S B
  nothing = record { nodes = []; boxes = []; over = None; full = None }

  module _ (g : Space S B) where
    abbrev pub IsInNone : List B → S → Type 0
    IsInNone boxes s = kept.IsInNone g.Contains boxes s

    abbrev pub IsFirstIn : List B → S → ℕ → Type 0
    IsFirstIn boxes s b = kept.IsFirstIn g.Contains boxes s b
