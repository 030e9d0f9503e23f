-- Runs that differ in the forms of their boxes alone, and spaces that differ in what may be kept.
use Rattle.std.specs.Prelude.{◌≡◌, List, [], ◌∷◌, ⊤}
use Rattle.search_runs.specs.declared.events.Event.{Event}
use Rattle.search_runs.specs.Nodes.{Config}
use Rattle.search_runs.specs.Spaces.{Space}

-- the items stand in pairs, and those of each pair are alike
abbrev pub AreInPairs : {B : Type 0} → (B → B → Type 0) → List B → List B → Type 0
AreInPairs Alike [] [] = ⊤
AreInPairs Alike [] (b ∷ bs) = ⊥
AreInPairs Alike (a ∷ rest) [] = ⊥
AreInPairs Alike (a ∷ rest) (b ∷ bs) = Alike a b × AreInPairs Alike rest bs

-- equal events, nodes, site and mark; the boxes are alike in pairs
pub record AreAlike {S B : Type 0} (Alike : B → B → Type 0) (i : List Event) (c : Config S B) (j : List Event) (d : Config S B) : Type 0 where
  pub journals : i ≡ j
  pub nodes : c.nodes ≡ d.nodes
  pub over : c.over ≡ d.over
  pub full : c.full ≡ d.full
  pub boxes : AreInPairs Alike c.boxes d.boxes

-- the space, where other boxes may be kept for a state
abbrev pub keeping_by : {S B : Type 0} → (S → B → Type 0) → Space S B → Space S B
keeping_by Keeps g = record g { Keeps = Keeps }
