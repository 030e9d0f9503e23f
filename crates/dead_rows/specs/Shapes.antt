-- What is kept of a task.
use Rattle.std.specs.Prelude.{◌≡◌, ℕ, ◌<◌, ◌≤◌, length, slice_index_or}
use Rattle.ground_task.specs.Tasks.{TaskValue}
use Rattle.dead_rows.specs.declared.shape.Shape.{Shape}

-- the number of facts and the places of each fluent are the task's
pub record IsShapeOf (t : TaskValue) (shape : Shape) : Type 0 where
  pub facts : shape.facts ≡ length t.raw.facts
  pub fluents : length shape.places ≡ length t.raw.fluents
  pub places : (x : ℕ) → x < length shape.places → slice_index_or shape.places x 0 ≡ slice_index_or t.places x 0
  pub few_places : (x : ℕ) → x < length shape.places → slice_index_or shape.places x 0 ≤ 18
