-- The system of a task at a state.
use Rattle.std.specs.Prelude.{ℕ, ◌≡◌, ◌<◌, ◌+◌, ◌^◌, List, Some, if◌then◌else◌, length, nat_lt, option_and_then, slice_get}
use Rattle.ground_task.specs.States.{StateValue}
use Rattle.ground_task.specs.Tasks.{TaskValue}
use Rattle.bound_words.specs.Rows.{IsRow, IsRowPast, Terms}
use Rattle.bound_words.specs.declared.system.Direction.{Direction}
use Rattle.bound_words.specs.declared.system.Direction.TheVariants.{Max, Min, Or}
use Rattle.box_rows.specs.Asking.{asked_by}
use Rattle.box_rows.specs.Tables.{SupportersValue}

-- facts gain bits, upper ranks rise, and lower ranks fall
abbrev pub direction_of : TaskValue → ℕ → Direction
direction_of t w =
    if nat_lt w (length t.raw.facts) then Or else (if nat_lt w (length t.raw.facts + length t.raw.fluents) then Max else Min)

-- the system of a task at a state
abbrev pub system_of : TaskValue → SupportersValue → StateValue → Terms
system_of t sup s =
    record {
      words = length t.raw.facts + (length t.raw.fluents + length t.raw.fluents);
      direction = direction_of t;
      rules = length sup.rules;
      asks = λ rule row. option_and_then (asked_by t s sup row) (slice_get sup.rules rule);
    }

-- a rule asks only a word that there is, for a value of 64 bits, and on a row further out it asks for the same
pub record IsLawful (t : Terms) : Type 0 where
  pub asked_word : (rule : ℕ) (row : List ℕ) (w x : ℕ) → rule < t.rules → IsRow t row → t.asks rule row ≡ Some (w, x) → (w < t.words) × (x < 2 ^ 64)
  pub asked_again : (rule : ℕ) (a b : List ℕ) (w x : ℕ) → rule < t.rules → IsRow t a → IsRow t b → IsRowPast t a b → t.asks rule a ≡ Some (w, x) → t.asks rule b ≡ Some (w, x)
