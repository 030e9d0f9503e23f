-- Right views and outcomes of a task are right in its space.
use Rattle.std.proofs.Common.{◌≡◌, ◌<◌, ◌+◌, ◌++◌, ℕ, zero, suc, List, [], ◌∷◌, length, All, slice_index_or, sym, ap, ◌∙◌, subst, inl, inr, arith}
use Rattle.ground_task.proofs.Agreement.{next_leads}
use Rattle.ground_task.proofs.StateNumbers.{step_keeps_sizes}
use Rattle.ground_task.specs.declared.answers.Applied.TheVariants as step
use Rattle.ground_task.specs.Placed.{IsPlaced}
use Rattle.ground_task.specs.Ranged.{ranged_step}
use Rattle.ground_task.specs.States.{StateValue}
use Rattle.ground_task.specs.Tasks.{IsStateOf, TaskValue}
use Rattle.box_model.specs.Boxes.{Contains}
use Rattle.box_model.specs.Least.{IsDead}
use Rattle.box_model.specs.declared.state_box.StateBox.{StateBox}
use Rattle.explored.specs.declared.classes.Most.{Most}
use Rattle.search_nodes.specs.Growth.{FitsOutcome, FitsState, FitsView}
use Rattle.search_nodes.specs.Tables.{Table}
use Rattle.search_nodes.specs.Right as right
use Rattle.search_nodes.specs.declared.views.Outcome.{Outcome}
use Rattle.search_nodes.specs.declared.views.Outcome.TheVariants as outcome
use Rattle.search_nodes.specs.declared.views.View.{View}
use Rattle.search_nodes.specs.declared.views.View.TheVariants as view
use Rattle.search_records.proofs.TaskLaws.{least_keeps}
use Rattle.search_records.specs.Spaces.{AnyDead, Keeping, LeastDead, space_by, stepped_in, truth_in}
use Rattle.search_core.specs.Views.{AreRightOutcomes, IsInKept, IsRightNext, IsRightOutcome, IsRightView}

module _ (Keeps : Keeping) (keeps : (t : TaskValue) (s : StateValue) (b : StateBox) → Keeps t s b → IsDead t b × Contains t.places b s) where
  module _ (t : TaskValue) (limit workers : ℕ) (most : Most) where
    pub right_view : (s : StateValue) (v : View) → IsRightView Keeps t s v → right.IsRightView (space_by Keeps t limit workers most) s v
    right_view s view.Goal is = ap truth_in is
    right_view s (view.Dead own) is = is
    right_view s (view.Live h) is = (is.0, is.1, ap truth_in is.2)
    right_view s (view.LiveOver h) is = (is.0, is.1, ap truth_in is.2)

  module _ (v : Table) (limit workers : ℕ) (most : Most) where
    right_outcome : (s : StateValue) (a : ℕ) (o : Outcome) → IsRightOutcome Keeps v s a o → right.IsRightOutcome (space_by Keeps v.task limit workers most) v.nodes v.boxes s a o
    right_outcome s a outcome.Blocked is = ap stepped_in is
    right_outcome s a outcome.Over is = ap stepped_in is
    right_outcome s a (outcome.Known n) is = (is.0, is.1, ap stepped_in is.2)
    right_outcome s a (outcome.InKept next) is = (ap stepped_in is.0, is.1)
    right_outcome s a (outcome.Next next found) is =
        (ap stepped_in is.0, elim is.1 [ inl there ↦ inl there.0 | inr is_right ↦ inr (right_view v.task limit workers most next found is_right) ])

    pub right_outcomes : (s : StateValue) (a : ℕ) (os : List Outcome) → AreRightOutcomes Keeps v s a os → right.AreRightOutcomes (space_by Keeps v.task limit workers most) v.nodes v.boxes s a os
    right_outcomes s a [] is = tt
    right_outcomes s a (o ∷ os) is = (right_outcome s a o is.0, right_outcomes s (suc a) os is.1)

  -- what is right fits the task
  pub fits_view : (t : TaskValue) (s : StateValue) (v : View) → IsRightView Keeps t s v → FitsView t v
  fits_view t s view.Goal is = tt
  fits_view t s (view.Dead own) is = (keeps t s own is).0.a_box
  fits_view t s (view.Live h) is = tt
  fits_view t s (view.LiveOver h) is = tt

  module _ (v : Table) (placed : IsPlaced v.task.raw v.task.places) (s : StateValue) (is_state : IsStateOf v.task s) where
    fits_state : (a : ℕ) (next : StateValue) → ranged_step v.task s a ≡ step.Next next → FitsState v.task next
    fits_state a next leads =
        let sizes = step_keeps_sizes v.task s next a is_state (next_leads v.task s a next placed leads) in
        (sizes.a_truth_each, sizes.a_number_each)

    fits_outcome : (a : ℕ) (o : Outcome) → IsRightOutcome Keeps v s a o → FitsOutcome v.task o
    fits_outcome a outcome.Blocked is = tt
    fits_outcome a outcome.Over is = tt
    fits_outcome a (outcome.Known n) is = tt
    fits_outcome a (outcome.InKept next) is = fits_state a next is.0
    fits_outcome a (outcome.Next next found) is =
        (fits_state a next is.0, elim is.1 [ inl there ↦ there.1 | inr is_right ↦ fits_view v.task next found is_right ])

    pub fits_outcomes : (a : ℕ) (os : List Outcome) → AreRightOutcomes Keeps v s a os → All (FitsOutcome v.task) os
    fits_outcomes a [] is = λ k d within. absurd (omega (arith, within))
    fits_outcomes a (o ∷ os) is = λ k d within. by (fits_outcomes (suc a) os is.1) k d within
      where
        by : All (FitsOutcome v.task) os → (k : ℕ) (d : Outcome) → k < length (o ∷ os) → FitsOutcome v.task (slice_index_or (o ∷ os) k d)
        by rest zero d within = fits_outcome a o is.0
        by rest (suc k) d within = rest k d (omega (arith, within))

-- what is right where least closed boxes alone may be kept is right where any dead box may
wider_view : (t : TaskValue) (s : StateValue) (found : View) → IsRightView LeastDead t s found → IsRightView AnyDead t s found
wider_view t s view.Goal is = is
wider_view t s (view.Dead own) is = least_keeps t s own is
wider_view t s (view.Live h) is = is
wider_view t s (view.LiveOver h) is = is

wider_outcome : (v : Table) (s : StateValue) (a : ℕ) (o : Outcome) → IsRightOutcome LeastDead v s a o → IsRightOutcome AnyDead v s a o
wider_outcome v s a outcome.Blocked is = is
wider_outcome v s a outcome.Over is = is
wider_outcome v s a (outcome.Known n) is = is
wider_outcome v s a (outcome.InKept next) is = is
wider_outcome v s a (outcome.Next next found) is = (is.0, elim is.1 [ inl there ↦ inl there | inr is_right ↦ inr (wider_view v.task next found is_right) ])

pub wider_outcomes : (v : Table) (s : StateValue) (a : ℕ) (os : List Outcome) → AreRightOutcomes LeastDead v s a os → AreRightOutcomes AnyDead v s a os
wider_outcomes v s a [] is = tt
wider_outcomes v s a (o ∷ os) is = (wider_outcome v s a o is.0, wider_outcomes v s (suc a) os is.1)

-- one outcome more
pub outcomes_snoc : (Keeps : Keeping) (v : Table) (s : StateValue) (a : ℕ) (os : List Outcome) (o : Outcome) → AreRightOutcomes Keeps v s a os → IsRightOutcome Keeps v s (a + length os) o → AreRightOutcomes Keeps v s a (os ++ o ∷ [])
outcomes_snoc Keeps v s a [] o is right = (subst (λ (k : ℕ). IsRightOutcome Keeps v s k o) (omega arith) right, tt)
outcomes_snoc Keeps v s a (p ∷ os) o is right = (is.0, outcomes_snoc Keeps v s (suc a) os o is.1 (subst (λ (k : ℕ). IsRightOutcome Keeps v s k o) (omega arith) right))

-- what is found out of the next state is what the action does
pub next_outcome : (Keeps : Keeping) (v : Table) (s : StateValue) (a : ℕ) (next : StateValue) (o : Outcome) → ranged_step v.task s a ≡ step.Next next → IsRightNext Keeps v next o → IsRightOutcome Keeps v s a o
next_outcome Keeps v s a next outcome.Blocked leads is = absurd is
next_outcome Keeps v s a next outcome.Over leads is = absurd is
next_outcome Keeps v s a next (outcome.Known n) leads is = (is.0, is.1, leads ∙ ap step.Next (sym is.2))
next_outcome Keeps v s a next (outcome.InKept t) leads is =
    (leads ∙ ap step.Next (sym is.0), subst (λ (k : StateValue). IsInKept v k) (sym is.0) is.1)
next_outcome Keeps v s a next (outcome.Next t found) leads is =
    (leads ∙ ap step.Next (sym is.0), inr (subst (λ (k : StateValue). IsRightView Keeps v.task k found) (sym is.0) is.1))
