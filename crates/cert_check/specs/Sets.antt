-- States, each once, in the order in which they came.
use Rattle.std.specs.Prelude.{◌≡◌, List, [], ◌∷◌, ◌++◌, if◌then◌else◌}
use Rattle.std.specs.List.{list_any}
use Rattle.ground_task.specs.Orders.{is_same_state}
use Rattle.ground_task.specs.States.{StateValue}

-- a state goes last where it isn't there
abbrev pub with_state : List StateValue → StateValue → List StateValue
with_state states s = if list_any (is_same_state s) states then states else states ++ s ∷ []

-- what is on the one list is on the other
abbrev pub HasSame : List StateValue → List StateValue → Type 0
HasSame states others = (s : StateValue) → list_any (is_same_state s) states ≡ list_any (is_same_state s) others
