-- What a call saw of files that it read one after another.
use Rattle.std.specs.Prelude.{ℕ, ◌≡◌, ◌+◌, ◌-◌, ◌^◌, ◌<◌, Option}
use Rattle.edge_io.specs.Folder.{Folder}
use Rattle.edge_io.specs.declared.files.Files.{Ghosts}

-- What the files told, the counts of faults and of files begun at the start and at the end of the call, and at the end
-- the count of faults as the last file was begun.
pub record Seen : Type 0 where
  pub told : Option Folder
  pub faults_before : ℕ
  pub faults_after : ℕ
  pub begun_before : ℕ
  pub begun_after : ℕ
  pub mark_after : ℕ

-- what a call saw of files of a type, over the files as it began and as it ended
unfoldable pub saw : {F : Type 0} → Ghosts F → F → F → Seen
saw f before after = record {
  told = f.told before;
  faults_before = f.faults before;
  faults_after = f.faults after;
  begun_before = f.begun before;
  begun_after = f.begun after;
  mark_after = f.mark after;
}

-- this many files were begun in the call; so much is known while their count is below its end
abbrev pub HasBegun : Seen → ℕ → Type 0
HasBegun seen k = seen.begun_after < 2 ^ 64 - 1 → seen.begun_after ≡ seen.begun_before + k

-- there was no fault in the call
abbrev pub HasNoFault : Seen → Type 0
HasNoFault seen = seen.faults_after ≡ seen.faults_before

-- this many files were begun in the call, and there was no fault
pub record ReadsWell (seen : Seen) (k : ℕ) : Type 0 where
  pub begun : HasBegun seen k
  pub no_fault : HasNoFault seen
