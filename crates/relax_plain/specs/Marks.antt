-- Marks on the actions of a task: those that are to be looked at.
use Rattle.std.specs.Prelude.{ℕ, ◌≡◌, ◌<◌, Bool, true, false, List, Some, slice_get, slice_index_or, length}
use Rattle.std.specs.List.{IsAmong}
use Rattle.ground_task.specs.declared.raw.Ground.{Ground}
use Rattle.ground_task.specs.Tasks.{TaskValue}
use Rattle.box_model.specs.Demands.{is_unmet}
use Rattle.box_model.specs.declared.state_box.StateBox.{StateBox}

-- whether the action of this number is marked
abbrev pub is_marked : List Bool → ℕ → Bool
is_marked marks number = slice_index_or marks number false

-- none below this number is marked
abbrev pub IsQuietBelow : List Bool → ℕ → Type 0
IsQuietBelow marks from = (number : ℕ) → number < from → is_marked marks number ≡ false

-- these are marked too
pub record MarksMore (numbers : List ℕ) (old new : List Bool) : Type 0 where
  pub as_many : length new ≡ length old
  pub marked : (number : ℕ) → IsAmong numbers number → is_marked new number ≡ true
  pub kept : (number : ℕ) → is_marked old number ≡ true → is_marked new number ≡ true

-- no action that isn't marked has a demand that the box doesn't meet
abbrev pub IsSettled : TaskValue → StateBox → List Bool → Type 0
IsSettled t b marks =
    (number : ℕ) (a : Ground) → slice_get t.raw.actions number ≡ Some a → is_marked marks number ≡ false → is_unmet t.places b a ≡ false
