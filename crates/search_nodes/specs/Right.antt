-- When what is found out of a state and of a step is right.
use Rattle.std.specs.Prelude.{ℕ, suc, ◌≡◌, ◌⊎◌, List, [], ◌∷◌, ⊤}
use Rattle.ground_task.specs.States.{StateValue}
use Rattle.box_model.specs.declared.state_box.StateBox.{StateBox}
use Rattle.search_nodes.specs.declared.views.Outcome.{Outcome}
use Rattle.search_nodes.specs.declared.views.Outcome.TheVariants as outcome
use Rattle.search_nodes.specs.declared.views.View.{View}
use Rattle.search_nodes.specs.declared.views.View.TheVariants as view
use Rattle.search_runs.specs.Nodes.{IsNode}
use Rattle.search_runs.specs.Spaces.{Yes, No, Overflow, Blocked, Over, Next, Space, IsAt, IsLive}
use Rattle.search_runs.specs.declared.nodes.Node.{Node}

module _ (g : Space StateValue StateBox) where
  abbrev pub IsRightView : StateValue → View → Type 0
  IsRightView s view.Goal = g.goal s ≡ Yes
  IsRightView s (view.Dead own) = g.Keeps s own
  IsRightView s (view.Live h) = IsLive g s × g.IsEstimate s h × (g.goal s ≡ No)
  IsRightView s (view.LiveOver h) = IsLive g s × g.IsEstimate s h × (g.goal s ≡ Overflow)

  -- some box of the list contains the state
  abbrev pub IsInSome : List StateBox → StateValue → Type 0
  IsInSome boxes s = (b : ℕ) × (box : StateBox) × IsAt boxes b box × g.Contains box s

  -- of a state that is a node's already nothing need be right
  abbrev pub IsRightOutcome : List (Node StateValue) → List StateBox → StateValue → ℕ → Outcome → Type 0
  IsRightOutcome nodes boxes s a outcome.Blocked = g.step a s ≡ Blocked
  IsRightOutcome nodes boxes s a outcome.Over = g.step a s ≡ Over
  IsRightOutcome nodes boxes s a (outcome.Known n) = (x : Node StateValue) × IsAt nodes n x × (g.step a s ≡ Next x.state)
  IsRightOutcome nodes boxes s a (outcome.InKept next) = (g.step a s ≡ Next next) × IsInSome boxes next
  IsRightOutcome nodes boxes s a (outcome.Next next found) = (g.step a s ≡ Next next) × (IsNode nodes next ⊎ IsRightView next found)

  -- the outcomes are those of the actions from a on
  abbrev pub AreRightOutcomes : List (Node StateValue) → List StateBox → StateValue → ℕ → List Outcome → Type 0
  AreRightOutcomes nodes boxes s a [] = ⊤
  AreRightOutcomes nodes boxes s a (o ∷ os) =
      IsRightOutcome nodes boxes s a o × AreRightOutcomes nodes boxes s (suc a) os
