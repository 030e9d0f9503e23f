-- Internal: what reading one file gives.
use Rattle.std.specs.Prelude.{ℕ, ◌≡◌, ◌<◌, ◌≤◌, ◌⊎◌, List, None, length, IfSome, IsSomeAnd}
use Rattle.edge_io.specs.Causes.{Rose}
use Rattle.edge_io.specs.Folder.{bytes_named}
use Rattle.whole_files.specs.Seen.{Seen, HasNoFault}
use Rattle.whole_files.specs.Gathered.{IsLarge, IsText}
use Rattle.whole_files.specs.declared.gathered.Once.{Once}
use Rattle.whole_files.specs.declared.gathered.Once.TheVariants.{Missing, TooLarge, Whole}
use Rattle.whole_files.specs.declared.wanted.Wanted.{Wanted}

-- what a call that reads one file gives
abbrev pub IsOnce : Seen → Wanted → Once → Type 0
IsOnce seen file Missing =
    Rose seen.mark_after seen.faults_after ⊎ IsSomeAnd seen.told (λ folder. bytes_named folder file.name ≡ None)
IsOnce seen file TooLarge = HasNoFault seen × IfSome seen.told (λ folder. IsLarge folder file)
IsOnce seen file (Whole text) = HasNoFault seen × IsText seen.told file text

-- what is made of the bytes of a file of which one byte more than the limit was read at most
abbrev pub IsCut : ℕ → List ℕ → Once → Type 0
IsCut limit bytes Missing = ⊥
IsCut limit bytes TooLarge = limit < length bytes
IsCut limit bytes (Whole text) = (text ≡ bytes) × (length bytes ≤ limit)
