-- What is found out of a step, by its parts.
use Rattle.std.proofs.Common.{◌≡◌, ◌+◌, ◌++◌, ℕ, true, List, [], ◌∷◌, length, Option, Some, None, refl, sym, ap, subst, ◌∙◌, arith}
use Rattle.std.specs.Prelude.{Result, Ok, Err, IfOk, IfSome, is_some}
use Rattle.ground_task.specs.declared.answers.Advanced.TheVariants as advance
use Rattle.ground_task.specs.declared.answers.Applied.{Applied}
use Rattle.ground_task.specs.declared.answers.Applied.TheVariants as step
use Rattle.ground_task.specs.Ranged.{ranged_step, without_state}
use Rattle.ground_task.specs.States.{StateValue}
use Rattle.box_model.specs.Boxes.{Contains}
use Rattle.search_nodes.specs.Tables.{Table}
use Rattle.search_nodes.specs.declared.views.Outcome.{Outcome}
use Rattle.search_nodes.specs.declared.views.Outcome.TheVariants as outcome
use Rattle.search_nodes.specs.declared.views.View.{View}
use Rattle.search_runs.specs.KeptBoxes.{IsFirstIn}
use Rattle.search_core.proofs.TaskLaws.{next_outcome, outcomes_snoc}
use Rattle.search_records.specs.Spaces.{LeastDead}
use Rattle.search_core.specs.Views.{AreRightOutcomes, IsInKept, IsRightNext, IsRightOutcome, IsRightView}

pub blocked_step : (x : Applied) → advance.Blocked ≡ without_state x → x ≡ step.Blocked
blocked_step step.Blocked e = refl
blocked_step step.Over e = cc
blocked_step (step.Next s) e = cc

pub over_step : (x : Applied) → advance.Over ≡ without_state x → x ≡ step.Over
over_step step.Blocked e = cc
over_step step.Over e = refl
over_step (step.Next s) e = cc

next_step : (x : Applied) → advance.Next ≡ without_state x → (s : StateValue) × (x ≡ step.Next s)
next_step step.Blocked e = cc
next_step step.Over e = cc
next_step (step.Next s) e = (s, refl)

module _ (v : Table) where
  -- what is found out of the buffer's state is what the action does
  pub next_right : {E : Type 0} (s next : StateValue) (a : ℕ) (r : Result Outcome E) → advance.Next ≡ without_state (ranged_step v.task s a) → ((t : StateValue) → ranged_step v.task s a ≡ step.Next t → next ≡ t)
      → IfOk r (IsRightNext LeastDead v next) → IfOk r (IsRightOutcome LeastDead v s a)
  next_right s next a (Ok o) answer buffer is =
      let (t, leads) = next_step (ranged_step v.task s a) answer in
      next_outcome LeastDead v s a next o (leads ∙ ap step.Next (sym (buffer t leads))) is
  next_right s next a (Err fault) answer buffer is = is

  -- a view is found out
  pub found_right : {E : Type 0} (next : StateValue) (view : View) (r : Result Outcome E) → IfOk r (λ o. o ≡ outcome.Next next view) → IsRightView LeastDead v.task next view → IfOk r (IsRightNext LeastDead v next)
  found_right next view (Ok o) is right = subst (IsRightNext LeastDead v next) (sym is) (refl, right)
  found_right next view (Err fault) is right = is

  pub kept_there : (s : StateValue) (o : Option ℕ) → IfSome o (λ b. IsFirstIn (Contains v.task.places) v.boxes s b) → is_some o ≡ true → IsInKept v s
  kept_there s (Some b) first some = (b, first.box, first.there, first.contains)
  kept_there s None first some = cc

  -- one outcome more
  pub outcomes_more : (s : StateValue) (os : List Outcome) (o : Outcome) (a : ℕ) → length os ≡ a → AreRightOutcomes LeastDead v s 0 os → IsRightOutcome LeastDead v s a o → AreRightOutcomes LeastDead v s 0 (os ++ o ∷ [])
  outcomes_more s os o a many is right = outcomes_snoc LeastDead v s 0 os o is (subst (λ (k : ℕ). IsRightOutcome LeastDead v s k o) (let same : a ≡ 0 + length os = omega (arith, many) in same) right)
