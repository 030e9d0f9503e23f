-- Certificates that no plan exists: a list of boxes and a list of states.
use Rattle.std.specs.Prelude.{ℕ, ◌≡◌, ◌≢◌, ◌<◌, ◌⊎◌, List, false, length}
use Rattle.ground_task.specs.declared.answers.Applied.TheVariants as step
use Rattle.ground_task.specs.declared.answers.Truth.TheVariants as truth
use Rattle.ground_task.specs.Meaning.{holds}
use Rattle.ground_task.specs.Ranged.{ranged_goal, ranged_step}
use Rattle.ground_task.specs.States.{StateValue}
use Rattle.ground_task.specs.Steps.{StepLeads}
use Rattle.ground_task.specs.Tasks.{TaskValue}
use Rattle.box_model.specs.Boxes.{Contains}
use Rattle.box_model.specs.Least.{IsDead}
use Rattle.box_model.specs.declared.state_box.StateBox.{StateBox}
use Rattle.dead_ends.specs.Reachable.{initial_state}
use Rattle.search_runs.specs.Spaces.{IsAt, IsListed}

-- the state is on the list, or in a box of the other list
abbrev pub IsCovered : TaskValue → List StateBox → List StateValue → StateValue → Type 0
IsCovered t boxes states s =
    IsListed states s ⊎ ((b : ℕ) × (box : StateBox) × IsAt boxes b box × Contains t.places box s)

-- The boxes are dead. In no state on the list does the goal hold, and each step from it leads to a covered
-- state. The initial state is covered.
pub record IsGood (t : TaskValue) (boxes : List StateBox) (states : List StateValue) : Type 0 where
  pub dead : (b : ℕ) (box : StateBox) → IsAt boxes b box → IsDead t box
  pub misses : (s : StateValue) → IsListed states s → holds t.places s t.raw.goal ≡ false
  pub steps : (s next : StateValue) (a : ℕ) → IsListed states s → StepLeads t a s next
      → IsCovered t boxes states next
  pub initial : IsCovered t boxes states (initial_state t)

-- The same with no number out of its range: the goal is false in each state on the list, and each ground action is
-- blocked there or leads to a covered state.
pub record IsProved (t : TaskValue) (boxes : List StateBox) (states : List StateValue) : Type 0 where
  pub dead : (b : ℕ) (box : StateBox) → IsAt boxes b box → IsDead t box
  pub misses : (s : StateValue) → IsListed states s → ranged_goal t s ≡ truth.No
  pub steps : (s : StateValue) (a : ℕ) → IsListed states s → a < length t.raw.actions
      → (ranged_step t s a ≡ step.Blocked) ⊎ ((next : StateValue) × (ranged_step t s a ≡ step.Next next) × IsCovered t boxes states next)
  pub initial : IsCovered t boxes states (initial_state t)

-- in no state on the list does a number leave its range, at the goal or at a ground action
pub record IsNowhereOver (t : TaskValue) (states : List StateValue) : Type 0 where
  pub goal : (s : StateValue) → IsListed states s → ranged_goal t s ≢ truth.Over
  pub steps : (s : StateValue) (a : ℕ) → IsListed states s → a < length t.raw.actions → ranged_step t s a ≢ step.Over
