-- What the words of a box are, where a box is read.
use Rattle.std.specs.Prelude.{◌≡◌, ℕ, ◌+◌, ◌*◌, ◌<◌, List, length, IsTrue}
use Rattle.num_ends.specs.Ends.{is_inhabited}
use Rattle.ground_task.specs.States.{StateValue}
use Rattle.ground_task.specs.Tasks.{TaskValue}
use Rattle.box_words.specs.Words.{IsEndWords, interval_at}
use Rattle.dead_rows.specs.declared.shape.Shape.{Shape}

-- both ends of each fluent are infinite or decimals of the code
abbrev pub AreEnds : Shape → List ℕ → Type 0
AreEnds shape words = (x : ℕ) → x < length shape.places → IsEndWords words (shape.facts + 8 * x) × IsEndWords words (shape.facts + 8 * x + 4)

-- no fluent's interval is empty
abbrev pub AreInhabited : Shape → List ℕ → Type 0
AreInhabited shape words = (x : ℕ) → x < length shape.places → IsTrue (is_inhabited (interval_at shape.facts words x).0 (interval_at shape.facts words x).1)

-- the state has a truth value per fact and a value per fluent of the task
abbrev pub IsFor : TaskValue → StateValue → Type 0
IsFor t s = (length s.facts ≡ length t.raw.facts) × (length s.values ≡ length t.raw.fluents)
