-- Lines and columns.
use Rattle.std.specs.Prelude.{ℕ, ◌+◌, ◌==◌, Bool, not, List, take, length}
use Rattle.std.specs.List.{filter, suffix_len}
use Rattle.pair_text.specs.declared.refusals.Place.{Place}

abbrev pub ends_line : ℕ → Bool
ends_line b = b == 10

-- how many line feeds there are
abbrev pub line_feeds : List ℕ → ℕ
line_feeds bytes = length (filter ends_line bytes)

-- how many bytes stand behind the last line feed, or in all where there is none
abbrev pub behind_line_feed : List ℕ → ℕ
behind_line_feed bytes = suffix_len (λ b. not (ends_line b)) bytes

-- the place of the byte with this position: line and column are counted from 1, positions from 0
abbrev pub place_of : List ℕ → ℕ → Place
place_of text at = record { line = line_feeds (take at text) + 1; column = behind_line_feed (take at text) + 1 }
