-- A plan of the pair is a plan of the task from each state at which its world stands.
use Rattle.std.proofs.Common.{ℕ, List, [], ◌∷◌, refl, sym, subst, ◌∙◌}
use Rattle.std.specs.Prelude.{IsTrue}
use Rattle.pddl_terms.specs.Readable.{IsReadable}
use Rattle.pddl_types.specs.declared.pairs.Pair.{Pair}
use Rattle.pddl_types.specs.WellFormed.{WellFormed}
use Rattle.pddl_meaning.specs.Worlds.{WorldValue}
use Rattle.pddl_meaning.specs.Truth.{goal_holds}
use Rattle.pddl_meaning.specs.Steps.{StepsLead}
use Rattle.pddl_meaning.specs.Steps.{IsPlanFrom as IsPairPlanFrom}
use Rattle.ground_task.specs.Placed.{IsPlaced}
use Rattle.ground_task.specs.States.{StateValue}
use Rattle.ground_task.specs.Steps.{IsPlanFrom}
use Rattle.ground_task.specs.Tasks.{TaskValue}
use Rattle.ground_meaning.specs.Tasks.{IsGroundTask}
use Rattle.ground_meaning.specs.Worlds.{StandsAt}
use Rattle.ground_meaning.proofs.GoalTruth.{same_goal}
use Rattle.ground_meaning.proofs.Stepping.{step_stands}

module _ (p : Pair) (readable : IsReadable p.domain p.problem) (formed : WellFormed p) (t : TaskValue) (task : IsGroundTask p t.raw) (placed : IsPlaced t.raw t.places) where
  steps_lead : (steps : List (List ℕ × List (List ℕ))) (w : WorldValue) (st : StateValue) (last : WorldValue) → StandsAt p t w st → StepsLead p w steps last → IsTrue (goal_holds p last)
      → (numbers : List ℕ) × IsPlanFrom t st numbers
  steps_lead [] w st last at same goal =
      let here = subst (λ (v : WorldValue). StandsAt p t v st) same at in
      ([], (st, refl, sym (same_goal p readable formed t task last st here) ∙ goal))
  steps_lead (step ∷ steps) w st last at lead goal =
      let first = step_stands p readable formed t task placed w st step.0 step.1 lead.0 at lead.1 in
      let rest = steps_lead steps lead.0 first.1 last first.4 lead.2 goal in
      (first.0 ∷ rest.0, (rest.1.0, (first.1, first.3, rest.1.1), rest.1.2))

  pub plan_stands : (w : WorldValue) (st : StateValue) (steps : List (List ℕ × List (List ℕ))) → StandsAt p t w st → IsPairPlanFrom p w steps → (numbers : List ℕ) × IsPlanFrom t st numbers
  plan_stands w st steps at plan = steps_lead steps w st plan.0 at plan.1 plan.2
