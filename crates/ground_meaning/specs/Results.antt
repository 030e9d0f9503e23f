-- Answers that may be faults, one after another.
use Rattle.std.specs.Prelude.{List, [], ◌∷◌, Result, Ok, Err}

-- what follows an answer, or its fault
abbrev pub after : {A B E : Type 0} → (A → Result B E) → Result A E → Result B E
after next (Ok a) = next a
after next (Err e) = Err e

-- a value made of an answer, or its fault
abbrev pub mapped : {A B E : Type 0} → (A → B) → Result A E → Result B E
mapped make (Ok a) = Ok (make a)
mapped make (Err e) = Err e

-- all of them, or the first fault
abbrev pub all_answers : {A E : Type 0} → List (Result A E) → Result (List A) E
all_answers [] = Ok []
all_answers (r ∷ rs) = after (λ a. mapped (λ found. a ∷ found) (all_answers rs)) r
