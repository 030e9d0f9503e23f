-- The exact reading of plan lines, from the front.
use Rattle.std.specs.Prelude.{ℕ, ◌+◌, ◌++◌, ◌||◌, ◌&&◌, ◌==◌, Bool, true, false, not, length, List, [], ◌∷◌, Option, Some, None, Result, Ok, Err, map, option_map, if◌then◌else◌}
use Rattle.std.specs.Option.{option_map_or}
use Rattle.std.specs.List.{list_all}
use Rattle.num_ends.specs.Names.{is_digit, is_name}
use Rattle.plan_text.specs.declared.cuts.Kind.{Kind}
use Rattle.plan_text.specs.declared.cuts.Kind.TheVariants as kind
use Rattle.plan_text.specs.declared.step.Step.{Step}
use Rattle.plan_text.specs.Plans.{is_space, words_of, lines_of}
use Rattle.num_ends.specs.Names.{folded}

-- ---- cuts

-- the longest front whose bytes pass
abbrev pub front : (ℕ → Bool) → List ℕ → List ℕ
front p [] = []
front p (b ∷ bs) = if p b then b ∷ front p bs else []

-- what follows that front
abbrev pub past : (ℕ → Bool) → List ℕ → List ℕ
past p [] = []
past p (b ∷ bs) = if p b then past p bs else b ∷ bs

abbrev pub is_of : Kind → ℕ → Bool
is_of kind.Space b = is_space b
is_of kind.Digit b = is_digit b
is_of kind.Word b = not (is_space b)
is_of (kind.Not c) b = not (b == c)

-- what follows the first byte, if there is one
abbrev pub behind_first : List ℕ → Option (List ℕ)
behind_first [] = None
behind_first (b ∷ bs) = Some bs

-- ---- numbers

-- what follows the digits at the front, where there are some
abbrev pub behind_digits : List ℕ → Option (List ℕ)
behind_digits [] = None
behind_digits (b ∷ bs) = if is_digit b then Some (past is_digit bs) else None

-- what follows the places at the front, if there is a point
abbrev pub behind_places : List ℕ → Option (List ℕ)
behind_places [] = Some []
behind_places (b ∷ bs) = if b == 46 then behind_digits bs else Some (b ∷ bs)

-- what follows the number at the front
abbrev pub behind_number : List ℕ → Option (List ℕ)
behind_number text = option_map_or behind_places (behind_digits text) None

abbrev pub is_blank : List ℕ → Bool
is_blank text = list_all is_space text

-- the mark and white space
abbrev pub is_mark : ℕ → List ℕ → Bool
is_mark mark [] = false
is_mark mark (b ∷ bs) = b == mark && is_blank bs

abbrev pub is_marked_number : ℕ → List ℕ → Bool
is_marked_number mark text =
    option_map_or (λ rest. is_mark mark (past is_space rest)) (behind_number (past is_space text)) false

abbrev pub may_precede : List ℕ → Bool
may_precede text = is_blank text || is_marked_number 58 text

abbrev pub is_bracketed : List ℕ → Bool
is_bracketed [] = true
is_bracketed (b ∷ bs) = b == 91 && is_marked_number 93 bs

abbrev pub may_follow : List ℕ → Bool
may_follow text = is_bracketed (past is_space text)

-- ---- lines

abbrev pub is_comment : List ℕ → Bool
is_comment [] = true
is_comment (b ∷ bs) = b == 59

abbrev pub is_skipped : List ℕ → Bool
is_skipped line = is_comment (past is_space line)

abbrev pub step_of : List (List ℕ) → Option Step
step_of [] = None
step_of (w ∷ ws) = if is_name w && list_all is_name ws then Some (record { name = w; args = ws }) else None

abbrev pub folded_words : List ℕ → List (List ℕ)
folded_words text = map (map folded) (words_of text)

-- a word before others, unless it is empty
abbrev pub with_first : List ℕ → List (List ℕ) → List (List ℕ)
with_first [] words = []
with_first (b ∷ bs) words = (b ∷ bs) ∷ words

abbrev pub checked_name : List ℕ → Option (List ℕ)
checked_name w = if is_name w then Some w else None

-- the names, where each is one
abbrev pub checked_names : List (List ℕ) → Option (List (List ℕ))
checked_names ws = if list_all is_name ws then Some ws else None

-- what stands before the first such byte, and what behind it
abbrev pub cut_at : ℕ → List ℕ → Option (List ℕ × List ℕ)
cut_at byte text =
    option_map (λ behind. (front (λ b. not (b == byte)) text, behind)) (behind_first (past (λ b. not (b == byte)) text))

-- the step of what stands before, in and behind round brackets
abbrev pub step_between : List ℕ → List ℕ → List ℕ → Option Step
step_between before inside behind = if may_precede before && may_follow behind then step_of (folded_words inside) else None

abbrev pub step_behind : List ℕ → List ℕ → Option Step
step_behind before rest = option_map_or (λ cut. step_between before cut.0 cut.1) (cut_at 41 rest) None

abbrev pub step_in : List ℕ → Option Step
step_in line = option_map_or (λ cut. step_behind cut.0 cut.1) (cut_at 40 line) None

abbrev pub steps_in : List ℕ → Option (List Step)
steps_in line = if is_skipped line then Some [] else option_map (λ step. step ∷ []) (step_in line)

-- ---- texts

-- the lines that are left of a text
abbrev pub lines_left : Option (List ℕ) → List (List ℕ)
lines_left None = []
lines_left (Some text) = lines_of text

-- more than the bytes that are left
abbrev pub size_left : Option (List ℕ) → ℕ
size_left None = 0
size_left (Some text) = length text + 1

-- the steps so far and those of the lines from this number on, or the number of the first bad one
abbrev pub read_from : ℕ → List Step → List (List ℕ) → Result (List Step) ℕ
read_from number steps [] = Ok steps
read_from number steps (line ∷ lines) =
    option_map_or (λ more. read_from (number + 1) (steps ++ more) lines) (steps_in line) (Err number)
