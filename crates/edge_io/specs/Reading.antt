-- What the place of a file that is read stands for.
use Rattle.std.specs.Prelude.{ℕ, ◌<◌, ◌≤◌, List, length, drop, Option, IfSome}
use Rattle.std.specs.Option.{option_map}
use Rattle.edge_io.specs.Folder.{Folder, bytes_at}
use Rattle.edge_io.specs.declared.memory_files.Reading.{Reading}

-- what is left of the file that is read
abbrev pub left_of : Folder → Option Reading → Option (List ℕ)
left_of folder reading = option_map (λ r. drop r.taken (bytes_at folder r.place)) reading

-- the place is one of a file, of which no more was taken than there is
abbrev pub IsPlaced : Folder → Option Reading → Type 0
IsPlaced folder reading = IfSome reading (λ r. (r.place < length folder) × (r.taken ≤ length (bytes_at folder r.place)))
