-- What a call of the program may tell.
use Rattle.std.specs.Prelude.{ℕ, ◌≡◌, ◌++◌, List, Option, Some, None, codes, map, slice_get}
use Rattle.enhsp_words.specs.Jobs.{job_of}
use Rattle.enhsp_words.specs.declared.job.Job.{Job}
use Rattle.pair_text.specs.declared.refusals.Source.{Source}
use Rattle.pair_text.specs.declared.refusals.Refusal.TheVariants as refusal
use Rattle.run_answers.specs.Refused.{refused}
use Rattle.run_answers.specs.declared.answers.Answer.{Answer}
use Rattle.whole_files.specs.Gathered.{AreGathered, IsMissing, IsTooLarge}
use Rattle.whole_files.specs.Seen.{Seen, ReadsWell}
use Rattle.enhsp_run.specs.Commands.{CommandRules, Entry, entry_of, name_in, wanted_file}
use Rattle.enhsp_run.specs.Commands.Entry.{Built, Unbuilt}
use Rattle.enhsp_run.specs.Told.{Told, plainly}

-- to words that are no job
abbrev pub usage : Answer
usage = record { status = 5; text = codes "USAGE\n" }

-- where the file of this name could not be read
abbrev pub file_fault : List ℕ → Answer
file_fault name = record { status = 6; text = codes "FILE FAULT " ++ name ++ codes "\n" }

-- What may be told of a job of a command with these rules. Its files were read and have texts, of which the rules allow to tell
-- it; or the last one that was begun is missing, or is too large.
pub data AnswersBuilt (rules : CommandRules) (seen : Seen) (job : Job) : Told → Type 0 where
  read : (texts : List (List ℕ)) (told : Told)
      → AreGathered seen (map (wanted_file job) rules.files) texts → rules.IsAnswer job texts told
      → AnswersBuilt rules seen job told
  missing : (k : ℕ) (file : Source)
      → slice_get rules.files k ≡ Some file → IsMissing seen (map (wanted_file job) rules.files) k
      → AnswersBuilt rules seen job (plainly (file_fault (name_in job file)))
  too_large : (k : ℕ) (file : Source)
      → slice_get rules.files k ≡ Some file → IsTooLarge seen (map (wanted_file job) rules.files) k
      → AnswersBuilt rules seen job (plainly (refused (refusal.TooLarge file)))

-- what may be told of the texts of a job's files
abbrev pub AnswersTexts : Entry → Job → List (List ℕ) → Told → Type 0
AnswersTexts Unbuilt job texts told = ⊥
AnswersTexts (Built rules) job texts told = rules.IsAnswer job texts told

-- a command that isn't there yet is refused before a file is begun
abbrev pub AnswersJob : Entry → Seen → Job → Told → Type 0
AnswersJob Unbuilt seen job told = (told ≡ plainly (refused refusal.Unbuilt)) × ReadsWell seen 0
AnswersJob (Built rules) seen job told = AnswersBuilt rules seen job told

-- and so are words that are no job
abbrev pub AnswersRead : Seen → Option Job → Told → Type 0
AnswersRead seen None told = (told ≡ plainly usage) × ReadsWell seen 0
AnswersRead seen (Some job) told = AnswersJob (entry_of job.command) seen job told

-- what a call with these words, that saw this of its files, may tell
abbrev pub IsAnswer : Seen → List (List ℕ) → Told → Type 0
IsAnswer seen words told = AnswersRead seen (job_of words) told
