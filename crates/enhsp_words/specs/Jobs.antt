-- The job that the words after the program's name ask for.
use Rattle.std.specs.Prelude.{ℕ, ◌≡◌, ⊤, List, [], ◌∷◌, length, Bool, ◌&&◌, Option, Some, None, is_some, codes, if◌then◌else◌, nat_le, ◌==◌, option_and_then, Result, Ok, Err}
use Rattle.std.specs.List.{list_all}
use Rattle.std.specs.Str.{all_ascii_digits}
use Rattle.std.specs.Str.Parse.{digits_value}
use Rattle.clap.specs.Walk.{Text}
use Rattle.enhsp_words.specs.CommandLine.{is_command_line, value_in}
use Rattle.enhsp_words.specs.Options.{command_of, fits, presence_of}
use Rattle.enhsp_words.specs.declared.job.Command.{Command}
use Rattle.enhsp_words.specs.declared.job.Job.{Job}
use Rattle.enhsp_words.specs.declared.job.WordsFault.{WordsFault}
use Rattle.enhsp_words.specs.declared.job.WordsFault.TheVariants.{Usage, NoMemory}
use Rattle.enhsp_words.specs.declared.values.Bounds.{Bounds}

infixl 10 ◌>>=◌
abbrev pub ◌>>=◌ : {A B : Type 0} → Option A → (A → Option B) → Option B
x >>= f = option_and_then f x

-- the value that is given under each id
abbrev pub Values : Type 0
Values = Text → Option Text

abbrev pub option_ids : List Text
option_ids = codes "domain" ∷ codes "problem" ∷ codes "plan" ∷ codes "certificate" ∷ codes "limit" ∷ codes "workers" ∷ codes "relaxers" ∷ codes "size" ∷ []

-- the command has each option that it needs, and none but those and the ones that it may have
abbrev pub has_its_options : Command → Values → Bool
has_its_options command value = list_all (λ id. fits (presence_of command id) (value id)) option_ids

-- the name of a file is not empty; where none is given, the text is empty
abbrev pub name_of : Option Text → Option Text
name_of None = Some []
name_of (Some text) = if length text == 0 then None else Some text

-- the number that one to seven digits write
abbrev pub numeral_of : Text → Option ℕ
numeral_of text =
    if nat_le 1 (length text) && (nat_le (length text) 7 && all_ascii_digits text) then Some (digits_value 10 text) else None

abbrev pub is_within : Bounds → ℕ → Bool
is_within bounds n = nat_le bounds.least n && nat_le n bounds.most

-- the number that is given, within its bounds, or the one that holds where none is given
abbrev pub number_of : Bounds → Option Text → Option ℕ
number_of bounds None = Some bounds.default
number_of bounds (Some text) = numeral_of text >>= λ n. if is_within bounds n then Some n else None

abbrev pub limit_bounds : Bounds
limit_bounds = record { least = 1; most = 1000000; default = 100000 }

-- of the workers, and of the relaxers
abbrev pub thread_bounds : Bounds
thread_bounds = record { least = 1; most = 16; default = 1 }

abbrev pub size_bounds : Bounds
size_bounds = record { least = 2; most = 64; default = 0 }

-- the third file is the plan or the certificate
abbrev pub third_of : Values → Option Text
third_of value = if is_some (value (codes "plan")) then value (codes "plan") else value (codes "certificate")

-- the job of a command with these values
unfoldable pub job_with : Command → Values → Option Job
job_with command value = do
  domain ← name_of (value (codes "domain"))
  problem ← name_of (value (codes "problem"))
  third ← name_of (third_of value)
  limit ← number_of limit_bounds (value (codes "limit"))
  workers ← number_of thread_bounds (value (codes "workers"))
  relaxers ← number_of thread_bounds (value (codes "relaxers"))
  size ← number_of size_bounds (value (codes "size"))
  Some (record {
    command = command;
    domain = domain;
    problem = problem;
    third = third;
    limit = limit;
    workers = workers;
    relaxers = relaxers;
    size = size;
  })

abbrev pub job_of_values : Values → Option Job
job_of_values value = do
  command ← value (codes "command") >>= command_of
  if has_its_options command value then job_with command value else None

-- the job of the words; words that are no job have none
unfoldable pub job_of : List Text → Option Job
job_of words = if is_command_line words then job_of_values (value_in words) else None

-- the call gives what stands in the words, `Usage` where nothing does, or finds no memory
abbrev pub Gives : {A : Type 0} → Result A WordsFault → Option A → Type 0
Gives (Ok a) expected = expected ≡ Some a
Gives (Err Usage) expected = expected ≡ None
Gives (Err NoMemory) expected = ⊤
