-- What a search keeps beside its nodes.
use Rattle.std.specs.Prelude.{ℕ, List, [], ◌∷◌, ◌++◌, Option}
use Rattle.box_model.specs.declared.state_box.StateBox.{StateBox}
use Rattle.search_runs.specs.declared.answers.Full.{Full}
use Rattle.search_runs.specs.declared.answers.Site.{Site}
use Rattle.search_runs.specs.Nodes.{or_else}

-- the dead boxes in the order in which they came, the first site at which a number left its range, with its
-- node, and the first thing for which there was no room
pub record Kept : Type 0 where
  pub boxes : List StateBox
  pub over : Option (ℕ × Site)
  pub full : Option Full

abbrev pub noted : ℕ → Site → Kept → Kept
noted node site k = record k { over = or_else k.over (node, site) }

abbrev pub marked : Full → Kept → Kept
marked full k = record k { full = or_else k.full full }

abbrev pub keeping : StateBox → Kept → Kept
keeping box k = record k { boxes = k.boxes ++ box ∷ [] }
