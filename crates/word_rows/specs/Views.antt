-- What the seats of a table of rows know, and what each of their steps leaves.
use Rattle.std.specs.Prelude.{◌==◌, ℕ, ◌+◌, List, [], ◌∷◌, ◌++◌, cond, nat_lt, Contains, Option, Some, None, option_map}
use Rattle.word_rows.specs.declared.view.Line.{Line}
use Rattle.word_rows.specs.declared.view.Load.{Load}
use Rattle.word_rows.specs.declared.view.View.{View}

abbrev pub line : ℕ → List ℕ → Line
line row words = record { row = row; words = words }

abbrev pub load : ℕ → ℕ → Load
load row found = record { row = row; found = found }

-- so many seats joined, of which none has done anything
abbrev pub fresh_view : ℕ → View
fresh_view seats = record { seats = seats; claims = []; known = []; loads = []; others = []; writing = None }

-- the number n is drawn: where there is such a row, it is the seat's to write
abbrev pub claimed : View → ℕ → View
claimed v n = record v { claims = v.claims ++ n ∷ []; writing = cond (nat_lt n 1024) (Some (line n [])) None }

-- one more word is stored in the row that is written
abbrev pub pushed : View → ℕ → View
pushed v word = record v { writing = option_map (λ l. line l.row (l.words ++ word ∷ [])) v.writing }

-- the seat writes this row, and has stored these words
abbrev pub with_words : View → ℕ → List ℕ → View
with_words v row words = record v { writing = Some (line row words) }

abbrev pub written : Option Line → List Line
written None = []
written (Some l) = l ∷ []

-- the row that was written is ready
abbrev pub opened : View → View
opened v = record v { known = written v.writing ++ v.known; writing = None }

-- the ready word of a row was loaded, and the row wasn't ready
abbrev pub missed : View → ℕ → View
missed v row = record v { loads = load row 0 ∷ v.loads }

-- the ready word of a row was loaded, and the row was ready and has these words
abbrev pub learnt : View → ℕ → List ℕ → View
learnt v row words = record v { known = line row words ∷ v.known; loads = load row 1 ∷ v.loads }

-- the seat v takes in the seat u
abbrev pub joined : View → View → View
joined v u = record {
  seats = v.seats + u.seats;
  claims = v.claims ++ u.claims;
  known = v.known ++ u.known;
  loads = v.loads;
  others = v.others ++ u.loads ++ u.others;
  writing = None;
}

-- the seat knows that the row is ready and has these words
abbrev pub Knows : View → ℕ → List ℕ → Type 0
Knows v row words = Contains v.known (line row words)

abbrev pub first_words : ℕ → List Line → List ℕ
first_words row [] = []
first_words row (l ∷ ls) = cond (l.row == row) l.words (first_words row ls)

-- the words of a row that the seat knows
abbrev pub words_known : View → ℕ → List ℕ
words_known v row = first_words row v.known

abbrev pub times : ℕ → List Load → ℕ
times row [] = 0
times row (l ∷ ls) = cond (l.row == row) 1 0 + times row ls

-- how often the ready word of a row was loaded, by the seat and by those that were joined into it
abbrev pub loads_of : View → ℕ → ℕ
loads_of v row = times row v.loads + times row v.others

abbrev pub first_found : ℕ → List Load → Option ℕ
first_found row [] = None
first_found row (l ∷ ls) = cond (l.row == row) (Some l.found) (first_found row ls)

-- what the seat's own last load of the ready word of a row gave
abbrev pub last_of : View → ℕ → Option ℕ
last_of v row = first_found row v.loads
