-- How a call of the program may end.
use Rattle.std.specs.Prelude.{ℕ, ◌≡◌, List, Option, Some, None, codes, map}
use Rattle.std.specs.Io.KnownBytes.{Appends}
use Rattle.answer_text.specs.Sending.{IsCut, IsCutWithin}
use Rattle.edge_io.specs.Folder.{Folder}
use Rattle.enhsp_words.specs.Jobs.{job_of}
use Rattle.enhsp_words.specs.declared.job.Job.{Job}
use Rattle.search_records.specs.declared.record.Record.{Record}
use Rattle.whole_files.specs.Gathered.{AreTexts}
use Rattle.enhsp_run.specs.Commands.{CommandRules, Entry, entry_of, wanted_file}
use Rattle.enhsp_run.specs.Commands.Entry.{Built, Unbuilt}
use Rattle.enhsp_run.specs.Told.{Told}

-- ---- jobs against which no reason stands

-- the files of a job with these rules are told and have these texts, none of which is too large, and no reason stands against them
pub record AreAcceptedTexts (rules : CommandRules) (told : Option Folder) (job : Job) (texts : List (List ℕ)) : Type 0 where
  pub folder : Folder
  pub is_told : told ≡ Some folder
  pub are_texts : AreTexts (Some folder) (map (wanted_file job) rules.files) texts
  pub accepted : rules.IsAccepted job texts

abbrev pub IsAcceptedBy : Entry → Option Folder → Job → List (List ℕ) → Type 0
IsAcceptedBy Unbuilt told job texts = ⊥
IsAcceptedBy (Built rules) told job texts = AreAcceptedTexts rules told job texts

-- the words are this job, its files have these texts, and nothing stands against them
abbrev pub IsAccepted : Option Folder → List (List ℕ) → Job → List (List ℕ) → Type 0
IsAccepted told words job texts = (job_of words ≡ Some job) × IsAcceptedBy (entry_of job.command) told job texts

abbrev pub EndsBy : Entry → Job → List (List ℕ) → ℕ → Type 0
EndsBy Unbuilt job texts status = ⊥
EndsBy (Built rules) job texts status = rules.EndsWith job texts status

-- the command of such a job may end with this status
abbrev pub EndsWith : Job → List (List ℕ) → ℕ → Type 0
EndsWith job texts status = EndsBy (entry_of job.command) job texts status

-- ---- calls that don't tell all

abbrev pub memory_text : List ℕ
memory_text = codes "NO MEMORY\n"

-- such a part of the text of what may be told was written, and the record of its search is handed back
pub record TellsPart (May : Told → Type 0) (IsPart : List ℕ → Type 0) (found : Option Record) : Type 0 where
  pub told : Told
  pub may : May told
  pub kept : found ≡ told.found
  pub part : IsPart told.text

-- the sink failed, and not all was written of what may be told, or of the line on memory
pub data FailsAtSink (May : Told → Type 0) (before after : Option (List ℕ)) : Option Record → Type 0 where
  part : (found : Option Record) → TellsPart May (IsCut before after) found → FailsAtSink May before after found
  line : IsCut before after memory_text → FailsAtSink May before after None

-- there was no memory: the line on it was written, or a part of what may be told, but not all of it
pub data LacksMemory (May : Told → Type 0) (before after : Option (List ℕ)) : Option Record → Type 0 where
  part : (found : Option Record) → TellsPart May (IsCutWithin before after) found → LacksMemory May before after found
  line : Appends before after memory_text → LacksMemory May before after None
