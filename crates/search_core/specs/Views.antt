-- When what is found out of a state and of a step is right.
use Rattle.std.specs.Prelude.{ℕ, suc, ◌≡◌, ◌⊎◌, List, [], ◌∷◌, ⊤}
use Rattle.ground_task.specs.declared.answers.Applied.TheVariants as step
use Rattle.ground_task.specs.declared.answers.Truth.TheVariants as truth
use Rattle.ground_task.specs.Ranged.{ranged_goal, ranged_step}
use Rattle.ground_task.specs.States.{StateValue}
use Rattle.ground_task.specs.Tasks.{TaskValue}
use Rattle.dead_ends.specs.Reachable.{IsLive}
use Rattle.subgoal.specs.Estimates.{IsEstimate}
use Rattle.search_nodes.specs.Growth.{FitsView}
use Rattle.search_nodes.specs.declared.views.Outcome.{Outcome}
use Rattle.search_nodes.specs.declared.views.Outcome.TheVariants as outcome
use Rattle.search_nodes.specs.declared.views.View.{View}
use Rattle.search_nodes.specs.declared.views.View.TheVariants as view
use Rattle.search_runs.specs.Nodes.{IsNode}
use Rattle.search_runs.specs.declared.nodes.Node.{Node}
use Rattle.search_runs.specs.Spaces.{IsAt}
use Rattle.search_nodes.specs.Tables.{Table}
use Rattle.box_model.specs.Boxes.{Contains}
use Rattle.box_model.specs.declared.state_box.StateBox.{StateBox}
use Rattle.search_records.specs.Spaces.{Keeping}

-- the goal holds; the state is dead, by a box that may be kept for it; it is live, with its estimate, and the goal
-- doesn't hold, or a number leaves its range there
abbrev pub IsRightView : Keeping → TaskValue → StateValue → View → Type 0
IsRightView Keeps t s view.Goal = ranged_goal t s ≡ truth.Yes
IsRightView Keeps t s (view.Dead own) = Keeps t s own
IsRightView Keeps t s (view.Live h) = IsLive t s × IsEstimate t s h × (ranged_goal t s ≡ truth.No)
IsRightView Keeps t s (view.LiveOver h) = IsLive t s × IsEstimate t s h × (ranged_goal t s ≡ truth.Over)

-- some kept box contains the state
abbrev pub IsInKept : Table → StateValue → Type 0
IsInKept v s = (b : ℕ) × (box : StateBox) × IsAt v.boxes b box × Contains v.task.places box s

-- what the ground action does in the state; of a next state that is a node's already the view need not be right
abbrev pub IsRightOutcome : Keeping → Table → StateValue → ℕ → Outcome → Type 0
IsRightOutcome Keeps v s a outcome.Blocked = ranged_step v.task s a ≡ step.Blocked
IsRightOutcome Keeps v s a outcome.Over = ranged_step v.task s a ≡ step.Over
IsRightOutcome Keeps v s a (outcome.Known n) =
    (x : Node StateValue) × IsAt v.nodes n x × (ranged_step v.task s a ≡ step.Next x.state)
IsRightOutcome Keeps v s a (outcome.InKept next) = (ranged_step v.task s a ≡ step.Next next) × IsInKept v next
IsRightOutcome Keeps v s a (outcome.Next next found) =
    (ranged_step v.task s a ≡ step.Next next)
    × ((IsNode v.nodes next × FitsView v.task found) ⊎ IsRightView Keeps v.task next found)

-- the outcomes of the ground actions from a on, in their order
abbrev pub AreRightOutcomes : Keeping → Table → StateValue → ℕ → List Outcome → Type 0
AreRightOutcomes Keeps v s a [] = ⊤
AreRightOutcomes Keeps v s a (o ∷ os) = IsRightOutcome Keeps v s a o × AreRightOutcomes Keeps v s (suc a) os

-- what is found out of a next state
abbrev pub IsRightNext : Keeping → Table → StateValue → Outcome → Type 0
IsRightNext Keeps v next outcome.Blocked = ⊥
IsRightNext Keeps v next outcome.Over = ⊥
IsRightNext Keeps v next (outcome.Known n) = (x : Node StateValue) × IsAt v.nodes n x × (x.state ≡ next)
IsRightNext Keeps v next (outcome.InKept s) = (s ≡ next) × IsInKept v next
IsRightNext Keeps v next (outcome.Next s found) = (s ≡ next) × IsRightView Keeps v.task next found
