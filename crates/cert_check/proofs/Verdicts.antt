-- What stands against a line, and certificates that are good.
use Rattle.std.proofs.Common.{◌≡◌, ◌<◌, ◌≤◌, ◌+◌, ℕ, List, Result, Ok, Err, IfOk, length, get_or, refl, sym, ap, subst, ◌∙◌, inl, inr, arith}
use Rattle.std.proofs.lemmas.Bool.{both_ways, cases_order}
use Rattle.std.proofs.lemmas.Option.{get_or_from_slice_get, slice_get_within}
use Rattle.ground_task.specs.declared.answers.Applied.{Applied}
use Rattle.ground_task.specs.declared.answers.Applied.TheVariants as step
use Rattle.ground_task.specs.declared.answers.Advanced.TheVariants as advance
use Rattle.ground_task.specs.declared.answers.Truth.TheVariants as truth
use Rattle.ground_task.specs.Ranged.{ranged_step, without_state}
use Rattle.ground_task.specs.States.{StateValue}
use Rattle.ground_task.specs.Steps.{IsTaskPlan}
use Rattle.ground_task.specs.Tasks.{TaskValue}
use Rattle.box_model.specs.declared.state_box.StateBox.{StateBox}
use Rattle.box_model.specs.Hold.{may_hold}
use Rattle.box_model.specs.Least.{IsDead}
use Rattle.cert_text.specs.declared.cert.Cert.{Cert}
use Rattle.dead_ends.specs.Certificates.{IsCovered, IsGood, IsProved}
use Rattle.dead_ends.specs.Reachable.{initial_state}
use Rattle.search_runs.specs.Spaces.{IsAt, IsListed}
use Rattle.num_ends.specs.declared.faults.NoMemory.{NoMemory}
use Rattle.cert_check.specs.declared.answers.Checked.{Checked}
use Rattle.cert_check.specs.declared.answers.Checked.TheVariants.{Certified, Refused}
use Rattle.cert_check.specs.declared.answers.Reason.{Reason}
use Rattle.cert_check.specs.declared.answers.Reason.TheVariants.{Unmet, MayGoal, GoalHolds, Successor, Over, Initial}
use Rattle.cert_check.specs.Checks.{AreBoxesDead, AreStatesGood, IsActionGood, IsAgainstAction, IsAgainstBox, IsAgainstState, IsChecked, IsRefused, IsStateGood}

-- ---- the answers of steps

pub next_of : (answer : Applied) → advance.Next ≡ without_state answer → (s : StateValue) × (answer ≡ step.Next s)
next_of step.Blocked e = cc
next_of step.Over e = cc
next_of (step.Next s) e = (s, refl)

pub blocked_of : (answer : Applied) → advance.Blocked ≡ without_state answer → answer ≡ step.Blocked
blocked_of step.Blocked e = refl
blocked_of step.Over e = cc
blocked_of (step.Next s) e = cc

pub over_of : (answer : Applied) → advance.Over ≡ without_state answer → answer ≡ step.Over
over_of step.Blocked e = cc
over_of step.Over e = refl
over_of (step.Next s) e = cc

-- what stands against an action, by the answer of its step, which wrote the next state to a buffer
module _ (t : TaskValue) (boxes : List StateBox) (states : List StateValue) (s : StateValue) (a : ℕ) (written : StateValue)
    (answer : advance.Next ≡ without_state (ranged_step t s a)) (writes : (next : StateValue) → ranged_step t s a ≡ step.Next next → written ≡ next) where
  pub good_next : IsCovered t boxes states written → IsActionGood t boxes states s a
  good_next covered =
      let next = next_of (ranged_step t s a) answer in inr (next.0, next.1, subst (IsCovered t boxes states) (writes next.0 next.1) covered)

  pub against_next : (IsCovered t boxes states written → ⊥) → IsAgainstAction t boxes states s a (Successor a)
  against_next missing =
      let next = next_of (ranged_step t s a) answer in (refl, (next.0, next.1, λ covered. missing (subst (IsCovered t boxes states) (sym (writes next.0 next.1)) covered)))

-- ---- states, one after another

module _ (t : TaskValue) (boxes : List StateBox) (states listed : List StateValue) (same : listed ≡ states) (i : ℕ)
    (before : (k : ℕ) (s : StateValue) → k < i → IsAt states k s → IsStateGood t boxes states s) where
  this_one : (x s : StateValue) (k : ℕ) → k ≡ i → x ≡ get_or listed i x → IsAt states k s → x ≡ s
  this_one x s k here is at =
      is ∙ ap (λ (xs : List StateValue). get_or xs i x) same ∙ ap (λ (n : ℕ). get_or states n x) (sym here) ∙ get_or_from_slice_get states k s x at

  pub one_good_more : (x : StateValue) → x ≡ get_or listed i x → IsStateGood t boxes states x
      → (k : ℕ) (s : StateValue) → k < i + 1 → IsAt states k s → IsStateGood t boxes states s
  one_good_more x is good k s less at =
      elim (cases_order k i) [
        | inl here ↦ subst (IsStateGood t boxes states) (this_one x s k here is at) good
        | inr (inl earlier) ↦ before k s earlier at
        | inr (inr after) ↦ absurd (omega (arith, less, after))
      ]

  pub all_good : length listed ≤ i → AreStatesGood t boxes states
  all_good all = λ n s at. before n s (omega (arith, ap (λ (xs : List StateValue). length xs) same, slice_get_within states n s at)) at

-- ---- no line of a proved certificate has anything against it

pub against_dead : (t : TaskValue) (b : StateBox) (reason : Reason) → IsAgainstBox t b reason → IsDead t b → ⊥
against_dead t b (Unmet a) h dead = h.0 dead.closed
against_dead t b MayGoal h dead = both_ways (may_hold t.places b t.raw.goal) dead.misses_goal h.1
against_dead t b GoalHolds h dead = h
against_dead t b (Successor a) h dead = h
against_dead t b (Over at) h dead = h
against_dead t b Initial h dead = h

module _ (t : TaskValue) (boxes : List StateBox) (states : List StateValue) where
  -- where nothing stands against a line, the certificate is proved
  pub proved : AreBoxesDead t boxes → AreStatesGood t boxes states → IsCovered t boxes states (initial_state t) → IsProved t boxes states
  proved dead good covered =
      record {
        dead = dead;
        misses = λ s there. (good there.0 s there.1).misses;
        steps = λ s a there known. (good there.0 s there.1).actions a known;
        initial = covered;
      }

  against_action : (s : StateValue) (a : ℕ) (reason : Reason) → IsActionGood t boxes states s a → IsAgainstAction t boxes states s a reason → ⊥
  against_action s a (Unmet b) good h = h
  against_action s a MayGoal good h = h
  against_action s a GoalHolds good h = h
  against_action s a (Successor b) (inl blocked) h = let same : step.Blocked ≡ step.Next h.1.0 = sym blocked ∙ h.1.1 in cc
  against_action s a (Successor b) (inr (next, is, covered)) (same, (other, leads, uncovered)) =
      let one : step.Next next ≡ step.Next other = sym is ∙ leads in
      let states_same : next ≡ other = cc in
      uncovered (subst (IsCovered t boxes states) states_same covered)
  against_action s a (Over at) (inl blocked) h = let same : step.Blocked ≡ step.Over = sym blocked ∙ h.1 in cc
  against_action s a (Over at) (inr (next, is, covered)) h = let same : step.Next next ≡ step.Over = sym is ∙ h.1 in cc
  against_action s a Initial good h = h

  against_state : IsProved t boxes states → (s : StateValue) → IsListed states s → (reason : Reason) → IsAgainstState t boxes states s reason → ⊥
  against_state is s there reason (inl (over, same)) = let both : truth.No ≡ truth.Over = sym (is.misses s there) ∙ over in cc
  against_state is s there reason (inr (inl (reached, same))) = let both : truth.No ≡ truth.Yes = sym (is.misses s there) ∙ reached in cc
  against_state is s there reason (inr (inr (missed, first))) =
      against_action s first.action reason (is.steps s first.action there first.known) first.against

  pub refused : (line : ℕ) (reason : Reason) → IsProved t boxes states → IsRefused t boxes states line reason → ⊥
  refused line reason is (inl l) = against_dead t l.box reason l.against (is.dead l.number l.box l.there)
  refused line reason is (inr (inl l)) = against_state is l.state (l.number, l.there) reason l.against
  refused line reason is (inr (inr l)) = l.uncovered is.initial

-- ---- the answer behind the boxes

module _ (t : TaskValue) (index cert : Cert) (same : index ≡ cert) where
  pub dead_in_index : AreBoxesDead t cert.boxes → AreBoxesDead t index.boxes
  dead_in_index dead = subst (λ (c : Cert). AreBoxesDead t c.boxes) (sym same) dead

  pub good_in_cert : AreStatesGood t index.boxes index.states → AreStatesGood t cert.boxes cert.states
  good_in_cert good = subst (λ (c : Cert). AreStatesGood t c.boxes c.states) same good

  module _ (first : StateValue) (initial : first ≡ initial_state t) where
    pub covered_in_cert : IsCovered t index.boxes index.states first → IsCovered t cert.boxes cert.states (initial_state t)
    covered_in_cert covered =
        subst (λ (c : Cert). IsCovered t c.boxes c.states (initial_state t)) same (subst (IsCovered t index.boxes index.states) initial covered)

    pub refused_at_end : AreBoxesDead t cert.boxes → AreStatesGood t index.boxes index.states → (IsCovered t index.boxes index.states first → ⊥) → (line : ℕ)
        → line ≡ 2 + length cert.boxes + length cert.states → IsRefused t cert.boxes cert.states line Initial
    refused_at_end dead good missing line is = inr (inr (record {
      boxes_dead = dead;
      states_good = good_in_cert good;
      line_is = is;
      reason_is = refl;
      uncovered = λ covered. missing (subst (IsCovered t index.boxes index.states) (sym initial)
          (subst (λ (c : Cert). IsCovered t c.boxes c.states (initial_state t)) (sym same) covered));
    }))

not_certified : (line : ℕ) (reason : Reason) → Refused line reason ≡ Certified → ⊥
not_certified line reason e = cc

-- what is certified has no plan
pub no_plan_of : (t : TaskValue) (boxes : List StateBox) (states : List StateValue) → (IsGood t boxes states → (plan : List ℕ) → IsTaskPlan t plan → ⊥)
    → (r : Result Checked NoMemory) → IfOk r (IsChecked t boxes states) → IfOk r (λ checked. checked ≡ Certified → (plan : List ℕ) → IsTaskPlan t plan → ⊥)
no_plan_of t boxes states exclude (Ok Certified) h = λ same plan is. exclude h.0 plan is
no_plan_of t boxes states exclude (Ok (Refused line reason)) h = λ same plan is. not_certified line reason same
no_plan_of t boxes states exclude (Err fault) h = h
