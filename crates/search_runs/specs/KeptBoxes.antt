-- Which box of a list is the first that contains a state.
use Rattle.std.specs.Prelude.{ℕ, ◌<◌, List}
use Rattle.search_runs.specs.Spaces.{IsAt}

module _ {S B : Type 0} (Contains : B → S → Type 0) where
  abbrev pub IsInNone : List B → S → Type 0
  IsInNone boxes s = (b : ℕ) (box : B) → IsAt boxes b box → Contains box s → ⊥

  -- box b contains the state, and none before it does
  pub record IsFirstIn (boxes : List B) (s : S) (b : ℕ) : Type 0 where
    pub box : B
    pub there : IsAt boxes b box
    pub contains : Contains box s
    pub earlier : (k : ℕ) (other : B) → k < b → IsAt boxes k other → Contains other s → ⊥
