-- The rule of a lock, and what each of its steps tells.
-- Word 0 is the count, the length of the history. Word 1 is 1 while a seat holds the turn, and else 0. Slot 0 has the value.
use Rattle.std.specs.Prelude.{◌≡◌, ◌≢◌, ◌⊎◌, ℕ, suc, ◌<◌, ◌≤◌, List, [], ◌∷◌, length, slice_index, All, Option, Some, None}
use mathlib.Core.Option.{some}
use mathlib.Core.Option as maybe
use lib.ListN.{get_elem?}
use Rattle.atomic_table.specs.Table.{State, Me, Step}
use Rattle.turn_lock.specs.History.{Journal, Continues, OthersAfter}
use Rattle.turn_lock.specs.declared.view.Entry.{Entry}
use Rattle.turn_lock.specs.declared.view.Mark.{Mark}
use Rattle.turn_lock.specs.declared.view.Stage.{Stage}
use Rattle.turn_lock.specs.declared.view.Stage.TheVariants.{Waits, Holds, Counted}
use Rattle.turn_lock.specs.declared.view.View.{View}
use Rattle.turn_lock.specs.Words.{idle, holding, counted, worker_in, seen_in, known_in}

-- One seat, as the rule has it. `now` is the history as the lock has it, or as the holder took it; `count` is the count that stands; `holder` is 0, or one more than the seat that holds the turn; `owner` gives the seat that has a worker number.

-- The seat has this worker number, and no other seat has it. The history begins with what its worker has seen, and no entry after that is the worker's own. The count is no less than the worker knows.
abbrev pub MarkHolds : ℕ → Journal → ℕ → (ℕ → ℕ) → ℕ → Mark → Type 0
MarkHolds seats now count owner seat m = (m.worker < seats) × (owner m.worker ≡ seat) × OthersAfter m.worker m.seen now × (m.known ≤ count)

-- an entry with one of the seat's numbers
abbrev pub IsOwn : (ℕ → ℕ) → ℕ → Entry → Type 0
IsOwn owner seat entry = (worker : ℕ) × (entry.worker ≡ Some worker) × (owner worker ≡ seat)

-- The turn is the seat's alone. What it takes is the history, and what it puts back is the history with entries of its own behind.
abbrev pub StageHolds : Journal → ℕ → ℕ → (ℕ → ℕ) → ℕ → Stage → Type 0
StageHolds now count holder owner seat Waits = holder ≢ suc seat
StageHolds now count holder owner seat (Holds taken) = (holder ≡ suc seat) × (taken ≡ now) × (count ≡ length now)
StageHolds now count holder owner seat (Counted taken back) = (holder ≡ suc seat) × (taken ≡ now) × (count ≡ length back) × Continues (IsOwn owner seat) now back

abbrev pub SeatHolds : ℕ → Journal → ℕ → ℕ → (ℕ → ℕ) → ℕ → View → Type 0
SeatHolds seats now count holder owner seat v = All (MarkHolds seats now count owner seat) v.marks × StageHolds now count holder owner seat v.stage

-- one of the marks has this worker number
abbrev pub StandsIn : ℕ → List Mark → Type 0
StandsIn worker [] = ⊥
StandsIn worker (m ∷ ms) = (m.worker ≡ worker) ⊎ StandsIn worker ms

-- the seat has this worker number
abbrev pub HasWorker : List View → ℕ → ℕ → Type 0
HasWorker views seat worker = (v : View) × (get_elem? views seat ≡ some v) × StandsIn worker v.marks

-- the seat is there, with a worker number
abbrev pub HasNumber : List View → ℕ → Type 0
HasNumber views seat = (v : View) × (m : Mark) × (ms : List Mark) × (get_elem? views seat ≡ some v) × (v.marks ≡ m ∷ ms)

module _ {T X : Type 0} (terms : T → X) (journal : T → Journal) where
  -- the value is at home, with the lock's terms and the history as its journal
  abbrev pub AtHome : T → Journal → List (maybe.Option (Option T)) → Type 0
  AtHome origin now homes = (value : T) × (get_elem? homes 0 ≡ some (some (Some value))) × (terms value ≡ terms origin) × (journal value ≡ now)

  pub record Kept (origin : T) (seats : ℕ) (s : State (Option T) View) : Type 0 where
    pub now : Journal
    pub holder : ℕ
    pub owner : ℕ → ℕ
    pub two_words : length s.words ≡ 2
    pub one_slot : length s.homes ≡ 1
    pub each_seat : (seat : ℕ) (v : View) → get_elem? s.views seat ≡ some v → SeatHolds seats now (slice_index s.words 0) holder owner seat v
    pub each_number : (worker : ℕ) → worker < seats → HasWorker s.views (owner worker) worker
    pub at_rest : holder ≡ 0 → (slice_index s.words 1 ≡ 0) × (slice_index s.words 0 ≡ length now) × AtHome origin now s.homes
    pub in_turn : (seat : ℕ) → holder ≡ suc seat → (slice_index s.words 1 ≡ 1) × HasNumber s.views seat

  -- the seat of one worker took the value: its journal continues what that worker had seen with entries of others, and is no shorter than it knew
  abbrev pub Took : Option T → Me (Option T) View → Me (Option T) View → Type 0
  Took said m m' = (value : T) × (m' ≡ (holding (worker_in m.0) (journal value) (known_in m.0), (0, Some value) ∷ [])) × OthersAfter (worker_in m.0) (seen_in m.0) (journal value) × (known_in m.0 ≤ length (journal value))
      × ((origin : T) → said ≡ Some origin → terms value ≡ terms origin)

  abbrev pub tried : Option T → Step (Option T) → Me (Option T) View → ℕ → Me (Option T) View → Type 0
  tried said st m found m' = (found ≡ 0 → Took said m m') × (found ≢ 0 → m' ≡ m)

module _ {T : Type 0} (journal : T → Journal) where
  abbrev pub journal_of : Option T → Journal
  journal_of None = []
  journal_of (Some value) = journal value

  -- the journal of the value that a seat has in hand
  abbrev pub journal_in : List (ℕ × Option T) → Journal
  journal_in [] = []
  journal_in (x ∷ xs) = journal_of x.1

  abbrev pub noted : Step (Option T) → Me (Option T) View → ℕ → Me (Option T) View → Type 0
  noted st m count m' = m' ≡ (counted (worker_in m.0) (seen_in m.0) (known_in m.0) (journal_in m.1), m.1)

  abbrev pub released : Step (Option T) → Me (Option T) View → ℕ → Me (Option T) View → Type 0
  released st m found m' = m' ≡ (idle (worker_in m.0) (journal_in m.1) (known_in m.0), [])

-- the seat knows the length that it found, which is no less than that of what it has seen, or than it knew
abbrev pub looked : {S : Type 0} → Step S → Me S View → ℕ → Me S View → Type 0
looked st m found m' = (m' ≡ (idle (worker_in m.0) (seen_in m.0) found, m.1)) × (length (seen_in m.0) ≤ found) × (known_in m.0 ≤ found)
