-- Walks from state to state by actions.
use Rattle.std.specs.Prelude.{ℕ, ◌≡◌, List, [], ◌∷◌}

module _ {S : Type 0} (Moves : ℕ → S → S → Type 0) where
  -- the actions, one after another, lead from the one state to the other
  abbrev pub Walk : List ℕ → S → S → Type 0
  Walk [] s last = s ≡ last
  Walk (a ∷ rest) s last = (next : S) × Moves a s next × Walk rest next last

module _ {S : Type 0} (Passes : S → Type 0) (Moves : ℕ → S → S → Type 0) where
  -- they lead there through such states alone, both ends included
  abbrev pub WalkThrough : List ℕ → S → S → Type 0
  WalkThrough [] s last = Passes s × (s ≡ last)
  WalkThrough (a ∷ rest) s last = Passes s × ((next : S) × Moves a s next × WalkThrough rest next last)
