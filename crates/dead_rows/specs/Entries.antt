-- What the words of a ready row are.
use Rattle.std.specs.Prelude.{◌≡◌, ℕ, List}
use Rattle.ground_task.specs.Tasks.{TaskValue}
use Rattle.box_model.specs.Least.{IsDead}
use Rattle.box_model.specs.declared.state_box.StateBox.{StateBox}
use Rattle.box_words.specs.Words.{words_of, IsWordable}

-- these are the words of this dead box of the task
pub record SpellsDead (t : TaskValue) (words : List ℕ) (b : StateBox) : Type 0 where
  pub dead : IsDead t b
  pub wordable : IsWordable b
  pub spelled : words ≡ words_of b

-- the words of a dead box of the task
abbrev pub IsDeadWords : TaskValue → List ℕ → Type 0
IsDeadWords t words = (b : StateBox) × SpellsDead t words b
