-- The class of a new state.
use Rattle.std.specs.Prelude.{ℕ, ◌≡◌, ◌<◌, ◌⊎◌, List, length, Option, Some, None}
use Rattle.ground_task.specs.States.{StateValue}
use Rattle.box_model.specs.Boxes.{Contains}
use Rattle.box_model.specs.declared.state_box.StateBox.{StateBox}
use Rattle.search_runs.specs.KeptBoxes.{IsInNone, IsFirstIn}
use Rattle.search_runs.specs.declared.answers.Full.TheVariants.{States, Boxes}
use Rattle.search_runs.specs.declared.answers.Site.TheVariants as site
use Rattle.explored.specs.declared.classes.Class.{Class}
use Rattle.explored.specs.declared.classes.Class.TheVariants as class
use Rattle.explored.specs.declared.classes.Most.{Most}
use Rattle.explored.specs.declared.classes.Seen.{Seen}
use Rattle.explored.specs.declared.classes.Seen.TheVariants as seen
use Rattle.explored.specs.Kept.{Kept, noted, marked, keeping}

-- a dead state that no kept box contains: its own box is kept, or there is no room for it
abbrev pub IsOwnClassed : ℕ → StateBox → Option Class → Kept → Kept → Type 0
IsOwnClassed most own answer old new =
    ((length old.boxes ≡ most) × (answer ≡ None) × (new ≡ marked Boxes old))
    ⊎ ((length old.boxes < most) × (answer ≡ Some (class.Dead (length old.boxes))) × (new ≡ keeping own old))

-- a dead state: it lies in a kept box, the first that contains it, or in none
abbrev pub IsDeadClassed : List ℕ → ℕ → StateValue → StateBox → Option Class → Kept → Kept → Type 0
IsDeadClassed places most s own answer old new =
    ((b : ℕ) × IsFirstIn (Contains places) old.boxes s b × (answer ≡ Some (class.Dead b)) × (new ≡ old))
    ⊎ (IsInNone (Contains places) old.boxes s × IsOwnClassed most own answer old new)

-- a state for which there is room, by what is known of it
abbrev pub IsClassedBy : List ℕ → Most → ℕ → StateValue → Seen → Option Class → Kept → Kept → Type 0
IsClassedBy places most node s seen.Goal answer old new = (answer ≡ Some class.Goal) × (new ≡ old)
IsClassedBy places most node s (seen.Dead own) answer old new = IsDeadClassed places most.boxes s own answer old new
IsClassedBy places most node s seen.Live answer old new = (answer ≡ Some class.Waits) × (new ≡ old)
IsClassedBy places most node s seen.LiveOver answer old new =
    (answer ≡ Some class.Waits) × (new ≡ noted node site.Goal old)

-- the class of the state that is to become the node of this number, and what is kept then
abbrev pub IsClassed : List ℕ → Most → ℕ → StateValue → Seen → Option Class → Kept → Kept → Type 0
IsClassed places most node s known answer old new =
    ((node ≡ most.states) × (answer ≡ None) × (new ≡ marked States old))
    ⊎ ((node < most.states) × IsClassedBy places most node s known answer old new)
