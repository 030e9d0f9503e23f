-- What reading files one after another gives.
use Rattle.std.specs.Prelude.{ℕ, ◌≡◌, ◌+◌, ◌<◌, ◌≤◌, ◌⊎◌, List, Option, Some, None, length, take, slice_get, IfSome, IsSomeAnd}
use Rattle.std.specs.List.{AllZip}
use Rattle.edge_io.specs.Causes.{Rose}
use Rattle.edge_io.specs.Folder.{Folder, bytes_named}
use Rattle.whole_files.specs.Seen.{Seen, HasBegun, ReadsWell}
use Rattle.whole_files.specs.declared.gathered.Gathered.{Gathered}
use Rattle.whole_files.specs.declared.gathered.Gathered.TheVariants.{Texts, Missing, TooLarge}
use Rattle.whole_files.specs.declared.wanted.Wanted.{Wanted}

-- this is the file's text, so far as files are told, and it isn't longer than the limit
pub record IsText (told : Option Folder) (file : Wanted) (text : List ℕ) : Type 0 where
  pub is_told : IfSome told (λ folder. bytes_named folder file.name ≡ Some text)
  pub small : length text ≤ file.limit

-- these are the files' texts, in their order
abbrev pub AreTexts : Option Folder → List Wanted → List (List ℕ) → Type 0
AreTexts told files texts = AllZip (IsText told) files texts

-- the files before this place, counted from 0, have texts
abbrev pub HaveTexts : Option Folder → List Wanted → ℕ → Type 0
HaveTexts told files k = (texts : List (List ℕ)) × AreTexts told (take k files) texts

-- all files were read, as many as there are, without a fault: these are their texts
pub record AreGathered (seen : Seen) (files : List Wanted) (texts : List (List ℕ)) : Type 0 where
  pub well : ReadsWell seen (length files)
  pub are_texts : AreTexts seen.told files texts

-- Of these files the one at this place is the last that was begun in the call. Those before it have texts, and no fault
-- came before it. Since it was begun a fault came, or the file isn't there.
pub record IsMissing (seen : Seen) (files : List Wanted) (k : ℕ) : Type 0 where
  pub file : Wanted
  pub kth : slice_get files k ≡ Some file
  pub begun : HasBegun seen (k + 1)
  pub no_fault_before : seen.mark_after ≡ seen.faults_before
  pub texts_before : HaveTexts seen.told files k
  pub cause : Rose seen.mark_after seen.faults_after ⊎ IsSomeAnd seen.told (λ folder. bytes_named folder file.name ≡ None)

-- the file is there, with a text that is longer than the limit
abbrev pub IsLarge : Folder → Wanted → Type 0
IsLarge folder file = (text : List ℕ) × (bytes_named folder file.name ≡ Some text) × (file.limit < length text)

-- Of these files the one at this place is the last that was begun in the call, which had no fault. Those before it have
-- texts, and it is too long.
pub record IsTooLarge (seen : Seen) (files : List Wanted) (k : ℕ) : Type 0 where
  pub file : Wanted
  pub kth : slice_get files k ≡ Some file
  pub well : ReadsWell seen (k + 1)
  pub texts_before : HaveTexts seen.told files k
  pub large : IfSome seen.told (λ folder. IsLarge folder file)

-- what a call that reads these files gives
abbrev pub IsGathered : Seen → List Wanted → Gathered → Type 0
IsGathered seen files (Texts texts) = AreGathered seen files texts
IsGathered seen files (Missing k) = IsMissing seen files k
IsGathered seen files (TooLarge k) = IsTooLarge seen files k
