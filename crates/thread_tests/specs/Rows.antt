-- Rows of two equal words.
use Rattle.std.specs.Prelude.{◌≡◌, ℕ, List, slice_index}

abbrev pub AreTwins : List ℕ → Type 0
AreTwins words = slice_index words 0 ≡ slice_index words 1
