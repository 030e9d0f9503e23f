-- A step, and a truth, within the range that isn't over is that without bounds.
use Rattle.std.proofs.Common.{◌≡◌, ℕ, Bool, true, false, not, Option, Some, None, refl, sym, ap, subst, ◌∙◌, List, slice_get, if◌then◌else◌}
use Rattle.std.specs.Option.{option_map_or}
use Rattle.ground_task.specs.declared.answers.Applied.{Applied}
use Rattle.ground_task.specs.declared.answers.Applied.TheVariants as step
use Rattle.ground_task.specs.declared.answers.Truth.TheVariants as truth
use Rattle.ground_task.specs.declared.raw.GCond.{GCond}
use Rattle.ground_task.specs.declared.raw.Ground.{Ground}
use Rattle.ground_task.specs.Meaning.{holds}
use Rattle.ground_task.specs.Placed.{IsPlaced}
use Rattle.ground_task.specs.Ranged.{are_effects_in_bounds, is_in_bounds, literals_true, ranged_action, ranged_step, ranged_truth}
use Rattle.ground_task.specs.States.{StateValue}
use Rattle.ground_task.specs.Steps.{next_state, StepLeads}
use Rattle.ground_task.specs.Tasks.{TaskValue}
use Rattle.ground_task.proofs.Conjuncts.{literals_of_truth}
use Rattle.ground_task.proofs.StateNumbers.{step_is_made, step_is_next}

abbrev answer : Bool → Bool → Bool → Bool → StateValue → Applied
answer literals fits truth effects made =
    if not literals then step.Blocked
    else (if not fits then step.Over
    else (if not truth then step.Blocked
    else (if not effects then step.Over
    else step.Next made)))

where_next : (l f t e : Bool) (made next : StateValue) → answer l f t e made ≡ step.Next next → (t ≡ true) × (made ≡ next)
where_next false f t e made next h = cc
where_next true false t e made next h = cc
where_next true true false e made next h = cc
where_next true true true false made next h = cc
where_next true true true true made next h = (refl, cc)

where_blocked : (l f t e : Bool) (made : StateValue) → l ≡ true → t ≡ true → answer l f t e made ≡ step.Blocked → ⊥
where_blocked false f t e made a b h = cc
where_blocked true false t e made a b h = cc
where_blocked true true false e made a b h = cc
where_blocked true true true false made a b h = cc
where_blocked true true true true made a b h = cc

module _ (places : List ℕ) (s : StateValue) (a : Ground) where
  action_next : (next : StateValue) → ranged_action places s a ≡ step.Next next → (holds places s a.pre ≡ true) × (next_state places s a ≡ next)
  unfolding ranged_action
  action_next next h = where_next (literals_true s a.pre) (is_in_bounds places s a.pre) (holds places s a.pre) (are_effects_in_bounds places s a.nums) (next_state places s a) next h

  action_blocked : holds places s a.pre ≡ true → ranged_action places s a ≡ step.Blocked → ⊥
  unfolding ranged_action
  action_blocked applies h =
      where_blocked (literals_true s a.pre) (is_in_bounds places s a.pre) (holds places s a.pre) (are_effects_in_bounds places s a.nums) (next_state places s a)
      (literals_of_truth places s a.pre applies) applies h

module _ (t : TaskValue) (s : StateValue) (number : ℕ) where
  -- the action of a step that has a next state
  by_action : (next : StateValue) (found : Option Ground) → slice_get t.raw.actions number ≡ found → option_map_or (ranged_action t.places s) found step.Blocked ≡ step.Next next → (a : Ground) × (slice_get t.raw.actions number ≡ Some a) × (holds t.places s a.pre ≡ true) × (next_state t.places s a ≡ next)
  by_action next None at h = cc
  by_action next (Some a) at h = let parts = action_next t.places s a next h in (a, at, parts.0, parts.1)

  pub next_leads : (next : StateValue) → IsPlaced t.raw t.places → ranged_step t s number ≡ step.Next next → StepLeads t number s next
  next_leads next placed h =
      let (a, at, applies, same) = by_action next (slice_get t.raw.actions number) refl h in
      subst (StepLeads t number s) same (step_is_made t s number a placed at applies)

  pub only_next : (next other : StateValue) → IsPlaced t.raw t.places → ranged_step t s number ≡ step.Next next → StepLeads t number s other → other ≡ next
  only_next next other placed h leads =
      let (a, at, applies, same) = by_action next (slice_get t.raw.actions number) refl h in
      (step_is_next t s other number a placed at leads).1 ∙ same

  pub blocked_leads_nowhere : (next : StateValue) → ranged_step t s number ≡ step.Blocked → StepLeads t number s next → ⊥
  blocked_leads_nowhere next h (a, at, leads) =
      action_blocked t.places s a leads.applies (sym (ap (λ (found : Option Ground). option_map_or (ranged_action t.places s) found step.Blocked) at) ∙ h)

-- ---- truths

where_yes : (f b : Bool) → (if not f then truth.Over else (if b then truth.Yes else truth.No)) ≡ truth.Yes → b ≡ true
where_yes false b h = cc
where_yes true true h = refl
where_yes true false h = cc

where_no : (f b : Bool) → (if not f then truth.Over else (if b then truth.Yes else truth.No)) ≡ truth.No → b ≡ false
where_no false b h = cc
where_no true true h = cc
where_no true false h = refl

pub yes_holds : (t : TaskValue) (s : StateValue) (c : GCond) → ranged_truth t s c ≡ truth.Yes → holds t.places s c ≡ true
yes_holds t s c h = where_yes (is_in_bounds t.places s c) (holds t.places s c) h

pub no_fails : (t : TaskValue) (s : StateValue) (c : GCond) → ranged_truth t s c ≡ truth.No → holds t.places s c ≡ false
no_fails t s c h = where_no (is_in_bounds t.places s c) (holds t.places s c) h
