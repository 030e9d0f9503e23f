-- What the seats of a lock know, by name.
use Rattle.std.specs.Prelude.{ℕ, zero, suc, ◌+◌, List, [], ◌∷◌, length}
use Rattle.turn_lock.specs.History.{Journal}
use Rattle.turn_lock.specs.declared.view.Mark.{Mark}
use Rattle.turn_lock.specs.declared.view.Stage.TheVariants.{Waits, Holds, Counted}
use Rattle.turn_lock.specs.declared.view.View.{View}

abbrev pub mark : ℕ → Journal → ℕ → Mark
mark worker seen known = record { worker = worker; seen = seen; known = known }

abbrev pub worker_of_mark : Mark → ℕ
worker_of_mark m = m.worker

-- a seat that holds no turn
abbrev pub waiting : List Mark → View
waiting marks = record { marks = marks; stage = Waits }

-- the seat of one worker, which holds no turn
abbrev pub idle : ℕ → Journal → ℕ → View
idle worker seen known = waiting (mark worker seen known ∷ [])

-- a worker that holds the turn, and took it with this journal
abbrev pub holding : ℕ → Journal → ℕ → View
holding worker taken known = record { marks = mark worker taken known ∷ []; stage = Holds taken }

-- a worker that holds the turn, and has counted the journal that it puts back
abbrev pub counted : ℕ → Journal → ℕ → Journal → View
counted worker taken known back = record { marks = mark worker taken known ∷ []; stage = Counted taken back }

abbrev pub first_worker : List Mark → ℕ
first_worker [] = 0
first_worker (m ∷ ms) = m.worker

abbrev pub first_seen : List Mark → Journal
first_seen [] = []
first_seen (m ∷ ms) = m.seen

abbrev pub first_known : List Mark → ℕ
first_known [] = 0
first_known (m ∷ ms) = m.known

-- the worker number of a seat with one, what it has seen, and the length that it knows
abbrev pub worker_in : View → ℕ
worker_in v = first_worker v.marks

abbrev pub seen_in : View → Journal
seen_in v = first_seen v.marks

abbrev pub known_in : View → ℕ
known_in v = first_known v.marks

abbrev pub first_mark : List Mark → List Mark
first_mark [] = []
first_mark (m ∷ ms) = m ∷ []

abbrev pub later_marks : List Mark → List Mark
later_marks [] = []
later_marks (m ∷ ms) = ms

-- the marks of so many workers from the first on, which have all seen the same and know its length
abbrev pub marks_from : ℕ → ℕ → Journal → List Mark
marks_from first zero seen = []
marks_from first (suc count) seen = mark first seen (length seen) ∷ marks_from (first + 1) count seen

-- the numbers from the first on
abbrev pub numbers_from : ℕ → ℕ → List ℕ
numbers_from first zero = []
numbers_from first (suc count) = first ∷ numbers_from (first + 1) count
