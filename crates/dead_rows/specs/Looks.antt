-- What a look at a row tells of it.
use Rattle.std.specs.Prelude.{◌≡◌, ◌≢◌, ◌⊎◌, ℕ, ◌<◌, List, Some}
use Rattle.ground_task.specs.States.{StateValue}
use Rattle.ground_task.specs.Tasks.{TaskValue}
use Rattle.box_model.specs.Boxes.{Contains}
use Rattle.box_model.specs.Least.{IsDead}
use Rattle.box_model.specs.declared.state_box.StateBox.{StateBox}
use Rattle.box_words.specs.Words.{words_of}
use Rattle.word_rows.specs.declared.view.View.{View}
use Rattle.word_rows.specs.Views.{Knows, loads_of, last_of}
use Rattle.dead_rows.specs.Knowledge.{IsLater}

-- the row was loaded between v and w, and wasn't ready
pub record WasNotReady (v w : View) (row : ℕ) : Type 0 where
  pub loaded : loads_of v row < loads_of w row
  pub last : last_of w row ≡ Some 0
  pub unknown : (words : List ℕ) → Knows v row words → ⊥

-- the row was loaded between v and w, and was ready
pub record WasReady (v w : View) (row : ℕ) : Type 0 where
  pub loaded : loads_of v row < loads_of w row
  pub last : last_of w row ≡ Some 1

-- the row was read, and its box doesn't contain the state
abbrev pub IsWithout : TaskValue → StateValue → View → ℕ → Type 0
IsWithout t s w row = (b : StateBox) × Knows w row (words_of b) × (Contains t.places b s → ⊥)

-- the row was read and its box doesn't contain the state, or it was loaded and wasn't ready
abbrev pub IsPassed : TaskValue → StateValue → View → View → ℕ → Type 0
IsPassed t s v w row = IsWithout t s w row ⊎ WasNotReady v w row

-- the row was found ready between v and w, and has this box, which is dead and contains the state
pub record IsHit (t : TaskValue) (s : StateValue) (v w : View) (row : ℕ) (b : StateBox) : Type 0 where
  pub ready : WasReady v w row
  pub inside : row < 1024
  pub known : Knows w row (words_of b)
  pub dead : IsDead t b
  pub contains : Contains t.places b s

-- between v and w the ready word of this row was loaded, and that of no other; nothing that was known is lost
pub record HasLooked (v w : View) (row : ℕ) : Type 0 where
  pub later : IsLater v w
  pub other_loads : (other : ℕ) → other ≢ row → loads_of w other ≡ loads_of v other
  pub other_last : (other : ℕ) → other ≢ row → last_of w other ≡ last_of v other

-- each row below this number is passed
abbrev pub ArePassed : TaskValue → StateValue → View → View → ℕ → Type 0
ArePassed t s v w count = (row : ℕ) → row < count → IsPassed t s v w row
