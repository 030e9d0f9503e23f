-- Certificates within the range of numbers, and without.
use Rattle.std.proofs.Common.{◌≡◌, ℕ, ◌<◌, ◌⊎◌, zero, suc, List, [], ◌∷◌, length, Some, slice_get, refl, sym, subst, ◌∙◌, inl, inr, arith}
use Rattle.std.proofs.lemmas.Bool.{both_ways}
use Rattle.ground_task.proofs.Agreement.{blocked_leads_nowhere, next_leads, no_fails, only_next, yes_holds}
use Rattle.ground_task.specs.declared.answers.Applied.{Applied}
use Rattle.ground_task.specs.declared.answers.Applied.TheVariants as step
use Rattle.ground_task.specs.declared.answers.Truth.{Truth}
use Rattle.ground_task.specs.declared.answers.Truth.TheVariants as truth
use Rattle.ground_task.specs.Meaning.{holds}
use Rattle.ground_task.specs.Placed.{IsPlaced}
use Rattle.ground_task.specs.Ranged.{ranged_goal, ranged_step}
use Rattle.ground_task.specs.States.{StateValue}
use Rattle.ground_task.specs.Steps.{StepLeads}
use Rattle.ground_task.specs.Tasks.{TaskValue}
use Rattle.box_model.specs.declared.state_box.StateBox.{StateBox}
use Rattle.dead_ends.specs.Certificates.{IsCovered, IsGood, IsNowhereOver, IsProved}
use Rattle.search_runs.specs.Spaces.{IsListed}

known_within : {X : Type 0} (xs : List X) (n : ℕ) (x : X) → slice_get xs n ≡ Some x → n < length xs
known_within [] n x e = cc
known_within (y ∷ xs) zero x e = omega arith
known_within (y ∷ xs) (suc n) x e = omega (arith, known_within xs n x e)

-- a step leads by an action of the task
pub step_known : (t : TaskValue) (a : ℕ) (s next : StateValue) → StepLeads t a s next → a < length t.raw.actions
step_known t a s next leads = known_within t.raw.actions a leads.0 leads.1

module _ (t : TaskValue) (boxes : List StateBox) (states : List StateValue) where
  pub proved_good : IsPlaced t.raw t.places → IsProved t boxes states → IsGood t boxes states
  proved_good placed is = record {
    dead = is.dead;
    misses = λ s listed. no_fails t s t.raw.goal (is.misses s listed);
    steps = λ s next a listed leads.
        elim (is.steps s a listed (step_known t a s next leads)) [
          | inl blocked ↦ absurd (blocked_leads_nowhere t s a next blocked leads)
          | inr (found, is_next, covered) ↦ subst (IsCovered t boxes states) (sym (only_next t s a found next placed is_next leads)) covered
        ];
    initial = is.initial;
  }

  pub proved_nowhere_over : IsProved t boxes states → IsNowhereOver t states
  proved_nowhere_over is = record {
    goal = λ s listed over. (let bad : truth.No ≡ truth.Over = sym (is.misses s listed) ∙ over in cc);
    steps = λ s a listed known over.
        elim (is.steps s a listed known) [
          | inl blocked ↦ (let bad : step.Blocked ≡ step.Over = sym blocked ∙ over in cc)
          | inr (found, is_next, covered) ↦ (let bad : step.Next found ≡ step.Over = sym is_next ∙ over in cc)
        ];
  }

  pub good_proved : IsPlaced t.raw t.places → IsGood t boxes states → IsNowhereOver t states → IsProved t boxes states
  good_proved placed good within = record {
    dead = good.dead;
    misses = λ s listed. by_truth s listed (ranged_goal t s) refl;
    steps = λ s a listed known. by_step s a listed known (ranged_step t s a) refl;
    initial = good.initial;
  }
    where
      by_truth : (s : StateValue) → IsListed states s → (x : Truth) → ranged_goal t s ≡ x → ranged_goal t s ≡ truth.No
      by_truth s listed truth.Yes is = absurd (both_ways (holds t.places s t.raw.goal) (good.misses s listed) (yes_holds t s t.raw.goal is))
      by_truth s listed truth.No is = is
      by_truth s listed truth.Over is = absurd (within.goal s listed is)

      by_step : (s : StateValue) (a : ℕ) → IsListed states s → a < length t.raw.actions → (x : Applied) → ranged_step t s a ≡ x
          → (ranged_step t s a ≡ step.Blocked) ⊎ ((next : StateValue) × (ranged_step t s a ≡ step.Next next) × IsCovered t boxes states next)
      by_step s a listed known step.Blocked is = inl is
      by_step s a listed known step.Over is = absurd (within.steps s a listed known is)
      by_step s a listed known (step.Next next) is = inr (next, is, good.steps s next a listed (next_leads t s a next placed is))
