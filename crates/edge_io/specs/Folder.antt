-- Files by their names.
use Rattle.std.specs.Prelude.{ℕ, List, [], Option, slice_get, unwrap_or}
use Rattle.std.specs.List.{find}
use Rattle.std.specs.Option.{option_map}
use Rattle.std.specs.Str.{bytes_eq}

-- the name and the bytes of each file
abbrev pub Folder : Type 0
Folder = List (List ℕ × List ℕ)

-- the bytes of the first file of that name
abbrev pub bytes_named : Folder → List ℕ → Option (List ℕ)
bytes_named folder name = option_map (λ file. file.1) (find (λ file. bytes_eq file.0 name) folder)

-- the bytes of the file at a place
abbrev pub bytes_at : Folder → ℕ → List ℕ
bytes_at folder place = unwrap_or (option_map (λ file. file.1) (slice_get folder place)) []
