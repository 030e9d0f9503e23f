-- A table of numbers, cut into rows of one width.
use Rattle.std.specs.Prelude.{ℕ, zero, suc, List, [], ◌∷◌, take, drop}

-- the first rows of a width, as many as are wanted
abbrev pub parted : ℕ → ℕ → List ℕ → List (List ℕ)
parted width zero cells = []
parted width (suc rows) cells = take width cells ∷ parted width rows (drop width cells)
