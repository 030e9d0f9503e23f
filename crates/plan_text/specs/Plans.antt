-- Plan files: which lines are skipped, which spell a step, and the steps that a text reads as.
use Rattle.std.specs.Prelude.{ℕ, ◌≡◌, ◌+◌, ◌<◌, ◌++◌, ◌||◌, ◌==◌, ◌⊎◌, Bool, true, false, List, [], ◌∷◌, Result, Ok, Err, map, length, codes, IsTrue}
use Rattle.std.specs.List.{filter, list_all, slice_split, join_with_byte}
use Rattle.num_ends.specs.Names.{folded, is_digit, is_name}
use Rattle.plan_text.specs.declared.step.Step.{Step}
use Rattle.plan_text.specs.declared.step.PlanFault.{PlanFault}
use Rattle.plan_text.specs.declared.step.PlanFault.TheVariants as faults

-- a space, a tab or a carriage return
abbrev pub is_space : ℕ → Bool
is_space b = b == 32 || b == 9 || b == 13

-- the lines of a text: its parts between line feeds; what follows the last line feed is a line too
abbrev pub lines_of : List ℕ → List (List ℕ)
lines_of text = slice_split (λ b. b == 10) text

abbrev pub has_bytes : List ℕ → Bool
has_bytes [] = false
has_bytes (b ∷ bs) = true

-- the words of a text: its parts between white space, but for the empty ones
abbrev pub words_of : List ℕ → List (List ℕ)
words_of text = filter has_bytes (slice_split is_space text)

-- white space and nothing else, perhaps none
abbrev pub IsBlank : List ℕ → Type 0
IsBlank bytes = IsTrue (list_all is_space bytes)

-- one digit or more
pub record IsDigits (bytes : List ℕ) : Type 0 where
  pub some : 0 < length bytes
  pub all_digits : IsTrue (list_all is_digit bytes)

-- digits, or digits, a point and digits
abbrev pub IsNumber : List ℕ → Type 0
IsNumber bytes =
    IsDigits bytes ⊎ ((whole : List ℕ) × (places : List ℕ) × (bytes ≡ whole ++ (codes "." ++ places)) × IsDigits whole × IsDigits places)

-- a number and then this mark, with white space round each
pub record IsMarkedNumber (mark : ℕ) (text : List ℕ) : Type 0 where
  pub before : List ℕ
  pub number : List ℕ
  pub between : List ℕ
  pub behind : List ℕ
  pub spelled : text ≡ before ++ (number ++ (between ++ mark ∷ behind))
  pub blank_before : IsBlank before
  pub a_number : IsNumber number
  pub blank_between : IsBlank between
  pub blank_behind : IsBlank behind

-- before the brackets: nothing but white space, or the time of the step, as `0.5 :` (58 is the colon)
abbrev pub MayPrecede : List ℕ → Type 0
MayPrecede text = IsBlank text ⊎ IsMarkedNumber 58 text

-- behind the brackets: nothing but white space, or how long the step lasts, as `[ 1 ]` (93 is the closing bracket)
abbrev pub MayFollow : List ℕ → Type 0
MayFollow text =
    IsBlank text ⊎ ((before : List ℕ) × (rest : List ℕ) × (text ≡ before ++ (codes "[" ++ rest)) × IsBlank before × IsMarkedNumber 93 rest)

-- the action's word and the words of the objects are names in lower case
abbrev pub is_named : Step → Bool
is_named step = list_all is_name (step.name ∷ step.args)

-- the line has the step's names between round brackets, perhaps with capitals, and nothing else but a time and a duration
pub record SpellsStep (line : List ℕ) (step : Step) : Type 0 where
  pub before : List ℕ
  pub inside : List ℕ
  pub behind : List ℕ
  pub spelled : line ≡ before ++ (codes "(" ++ (inside ++ (codes ")" ++ behind)))
  pub may_precede : MayPrecede before
  pub words : map (map folded) (words_of inside) ≡ step.name ∷ step.args
  pub named : IsTrue (is_named step)
  pub may_follow : MayFollow behind

-- white space, and perhaps a comment
abbrev pub IsSkipped : List ℕ → Type 0
IsSkipped line = IsBlank line ⊎ ((before : List ℕ) × (comment : List ℕ) × (line ≡ before ++ (codes ";" ++ comment)) × IsBlank before)

-- the steps of one line: none, or the one that it spells
abbrev pub LineReadsAs : List ℕ → List Step → Type 0
LineReadsAs line steps = (IsSkipped line × (steps ≡ [])) ⊎ ((step : Step) × (steps ≡ step ∷ []) × SpellsStep line step)

-- the steps of lines, in order
abbrev pub LinesReadAs : List (List ℕ) → List Step → Type 0
LinesReadAs [] steps = steps ≡ []
LinesReadAs (line ∷ lines) steps =
    (first : List Step) × (rest : List Step) × (steps ≡ first ++ rest) × LineReadsAs line first × LinesReadAs lines rest

abbrev pub ReadsAs : List ℕ → List Step → Type 0
ReadsAs text steps = LinesReadAs (lines_of text) steps

-- neither skipped nor a step
abbrev pub IsBad : List ℕ → Type 0
IsBad line = (steps : List Step) → LineReadsAs line steps → ⊥

-- the first bad line of a text has this number, counted from 1
pub record IsFirstBad (text : List ℕ) (number : ℕ) : Type 0 where
  pub before : List (List ℕ)
  pub line : List ℕ
  pub rest : List (List ℕ)
  pub lines : lines_of text ≡ before ++ line ∷ rest
  pub place : number ≡ length before + 1
  pub steps_before : List Step
  pub good_before : LinesReadAs before steps_before
  pub bad : IsBad line

-- the line of a step, with its line feed
abbrev pub step_line : Step → List ℕ
step_line step = codes "(" ++ join_with_byte 32 (step.name ∷ step.args) ++ codes ")\n"

-- what the reading of a text answers
abbrev pub IsAnswer : List ℕ → Result (List Step) PlanFault → Type 0
IsAnswer text (Ok steps) = ReadsAs text steps
IsAnswer text (Err (faults.BadLine number)) = IsFirstBad text number
IsAnswer text (Err faults.NoMemory) = Unit {0}
