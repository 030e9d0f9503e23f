-- What a diary tells of its history.
use Rattle.std.specs.Prelude.{ℕ, List, [], ◌∷◌, map, Some}
use Rattle.turn_lock.specs.declared.view.Entry.{Entry}
use Rattle.turn_lock.specs.History.{Journal}

-- the entry of a line, which has its writer and the page
abbrev pub entry_of : ℕ × ℕ → Entry
entry_of line = record { worker = Some line.0; said = line.1 ∷ [] }

abbrev pub entries_of : List (ℕ × ℕ) → Journal
entries_of lines = map entry_of lines
