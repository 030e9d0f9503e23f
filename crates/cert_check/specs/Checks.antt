-- What stands against a certificate, and in which of its lines.
use Rattle.std.specs.Prelude.{ℕ, ◌≡◌, ◌<◌, ◌+◌, ◌⊎◌, List, Some, length, position, IsTrue}
use Rattle.ground_task.specs.declared.answers.Applied.TheVariants as step
use Rattle.ground_task.specs.declared.answers.Truth.TheVariants as truth
use Rattle.ground_task.specs.Ranged.{ranged_goal, ranged_step}
use Rattle.ground_task.specs.States.{StateValue}
use Rattle.ground_task.specs.Tasks.{TaskValue}
use Rattle.box_model.specs.declared.state_box.StateBox.{StateBox}
use Rattle.box_model.specs.Demands.{is_closed, is_unmet}
use Rattle.box_model.specs.Hold.{may_hold}
use Rattle.box_model.specs.Least.{IsDead}
use Rattle.dead_ends.specs.Certificates.{IsCovered, IsGood, IsNowhereOver}
use Rattle.dead_ends.specs.Reachable.{initial_state}
use Rattle.search_runs.specs.Spaces.{IsAt}
use Rattle.search_runs.specs.declared.answers.Site.TheVariants as site
use Rattle.cert_check.specs.declared.answers.Checked.{Checked}
use Rattle.cert_check.specs.declared.answers.Checked.TheVariants.{Certified, Refused}
use Rattle.cert_check.specs.declared.answers.Reason.{Reason}
use Rattle.cert_check.specs.declared.answers.Reason.TheVariants.{Unmet, MayGoal, GoalHolds, Successor, Over, Initial}

-- What stands first against a box: the first action of which it doesn't meet a demand; of a closed box, that the goal
-- may hold in it.
abbrev pub IsAgainstBox : TaskValue → StateBox → Reason → Type 0
IsAgainstBox t b (Unmet a) = (IsTrue (is_closed t b) → ⊥) × (position (is_unmet t.places b) t.raw.actions ≡ Some a)
IsAgainstBox t b MayGoal = IsTrue (is_closed t b) × IsTrue (may_hold t.places b t.raw.goal)
IsAgainstBox t b GoalHolds = ⊥
IsAgainstBox t b (Successor a) = ⊥
IsAgainstBox t b (Over at) = ⊥
IsAgainstBox t b Initial = ⊥

abbrev pub AreBoxesDead : TaskValue → List StateBox → Type 0
AreBoxesDead t boxes = (b : ℕ) (box : StateBox) → IsAt boxes b box → IsDead t box

-- The lines are numbered from 1. The boxes stand from line 2 on, the states behind them, and then the end.
pub record IsBoxLine (t : TaskValue) (boxes : List StateBox) (line : ℕ) (reason : Reason) : Type 0 where
  pub number : ℕ
  pub box : StateBox
  pub there : IsAt boxes number box
  pub line_is : line ≡ 2 + number
  pub earlier : (k : ℕ) (other : StateBox) → k < number → IsAt boxes k other → IsDead t other
  pub against : IsAgainstBox t box reason

module _ (t : TaskValue) (boxes : List StateBox) (states : List StateValue) where
  -- the action leads nowhere from the state, or to a covered state
  abbrev pub IsActionGood : StateValue → ℕ → Type 0
  IsActionGood s a =
      (ranged_step t s a ≡ step.Blocked)
      ⊎ ((next : StateValue) × (ranged_step t s a ≡ step.Next next) × IsCovered t boxes states next)

  -- a number leaves its range at the action, or the action leads to a state that isn't covered
  abbrev pub IsAgainstAction : StateValue → ℕ → Reason → Type 0
  IsAgainstAction s a (Unmet b) = ⊥
  IsAgainstAction s a MayGoal = ⊥
  IsAgainstAction s a GoalHolds = ⊥
  IsAgainstAction s a (Successor b) =
      (b ≡ a) × ((next : StateValue) × (ranged_step t s a ≡ step.Next next) × (IsCovered t boxes states next → ⊥))
  IsAgainstAction s a (Over at) = (at ≡ site.Action a) × (ranged_step t s a ≡ step.Over)
  IsAgainstAction s a Initial = ⊥

  -- what stands against the first action that isn't good
  pub record IsFirstAgainst (s : StateValue) (reason : Reason) : Type 0 where
    pub action : ℕ
    pub known : action < length t.raw.actions
    pub earlier : (k : ℕ) → k < action → IsActionGood s k
    pub against : IsAgainstAction s action reason

  abbrev pub AreActionsGood : StateValue → Type 0
  AreActionsGood s = (a : ℕ) → a < length t.raw.actions → IsActionGood s a

  -- the goal doesn't hold in the state, and each action is good
  pub record IsStateGood (s : StateValue) : Type 0 where
    pub misses : ranged_goal t s ≡ truth.No
    pub actions : AreActionsGood s

  -- what stands first against a state: the goal, and else an action
  abbrev pub IsAgainstState : StateValue → Reason → Type 0
  IsAgainstState s reason =
      ((ranged_goal t s ≡ truth.Over) × (reason ≡ Over site.Goal))
      ⊎ ((ranged_goal t s ≡ truth.Yes) × (reason ≡ GoalHolds))
      ⊎ ((ranged_goal t s ≡ truth.No) × IsFirstAgainst s reason)

  abbrev pub AreStatesGood : Type 0
  AreStatesGood = (n : ℕ) (s : StateValue) → IsAt states n s → IsStateGood s

  pub record IsStateLine (line : ℕ) (reason : Reason) : Type 0 where
    pub boxes_dead : AreBoxesDead t boxes
    pub number : ℕ
    pub state : StateValue
    pub there : IsAt states number state
    pub line_is : line ≡ 2 + length boxes + number
    pub earlier : (k : ℕ) (other : StateValue) → k < number → IsAt states k other → IsStateGood other
    pub against : IsAgainstState state reason

  pub record IsEndLine (line : ℕ) (reason : Reason) : Type 0 where
    pub boxes_dead : AreBoxesDead t boxes
    pub states_good : AreStatesGood
    pub line_is : line ≡ 2 + length boxes + length states
    pub reason_is : reason ≡ Initial
    pub uncovered : IsCovered t boxes states (initial_state t) → ⊥

  -- the first line against which something stands, and what stands first against it
  abbrev pub IsRefused : ℕ → Reason → Type 0
  IsRefused line reason = IsBoxLine t boxes line reason ⊎ IsStateLine line reason ⊎ IsEndLine line reason

  -- the answer on a certificate
  abbrev pub IsChecked : Checked → Type 0
  IsChecked Certified = IsGood t boxes states × IsNowhereOver t states
  IsChecked (Refused line reason) = IsRefused line reason
