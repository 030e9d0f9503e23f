-- Where a task stands for a pair, the plans of the one are those of the other, step by step.
use Rattle.std.proofs.Common.{◌↔◌, ℕ, List, [], ◌∷◌, refl, sym, subst, ◌∙◌}
use Rattle.pddl_types.specs.declared.pairs.Pair.{Pair}
use Rattle.pddl_meaning.specs.Worlds.{WorldValue, initial_world}
use Rattle.pddl_meaning.specs.Steps.{IsPlan}
use Rattle.pddl_meaning.specs.Steps.{IsPlanFrom as IsPairPlanFrom}
use Rattle.ground_task.specs.States.{StateValue}
use Rattle.ground_task.specs.Steps.{IsPlanFrom, IsTaskPlan}
use Rattle.ground_task.specs.Tasks.{TaskValue, IsInitialState}
use Rattle.ground_meaning.specs.Plans.{AreNamed}
use Rattle.ground_meaning.specs.Worlds.{StandsAt, StandsFor}

module _ (p : Pair) (t : TaskValue) (stood : StandsFor p t) where
  -- a plan of the task from a state is a plan of the pair from each world at it
  pub plan_back : (numbers : List ℕ) (w : WorldValue) (st : StateValue) → StandsAt p t w st → IsPlanFrom t st numbers
      → (steps : List (List ℕ × List (List ℕ))) × IsPairPlanFrom p w steps × AreNamed t numbers steps
  plan_back [] w st at plan =
      let here = subst (λ (s : StateValue). StandsAt p t w s) plan.1 at in
      ([], (w, refl, stood.goal w plan.0 here ∙ plan.2), tt)
  plan_back (number ∷ numbers) w st at plan =
      let step = stood.back w st number plan.1.0 at plan.1.1 in
      let rest = plan_back numbers step.2 plan.1.0 step.5 (plan.0, plan.1.2, plan.2) in
      ((step.0, step.1) ∷ rest.0, (rest.1.0, (step.2, step.4, rest.1.1), rest.1.2), (step.3, rest.2))

  -- a plan of the pair from a world is a plan of the task from each state at which it stands
  pub plan_forward : (steps : List (List ℕ × List (List ℕ))) (w : WorldValue) (st : StateValue) → StandsAt p t w st → IsPairPlanFrom p w steps
      → (numbers : List ℕ) × IsPlanFrom t st numbers × AreNamed t numbers steps
  plan_forward [] w st at plan =
      let here = subst (λ (v : WorldValue). StandsAt p t v st) plan.1 at in
      ([], (st, refl, sym (stood.goal plan.0 st here) ∙ plan.2), tt)
  plan_forward (step ∷ steps) w st at plan =
      let first = stood.forward w st step.0 step.1 plan.1.0 at plan.1.1 in
      let rest = plan_forward steps plan.1.0 first.1 first.4 (plan.0, plan.1.2, plan.2) in
      (first.0 ∷ rest.0, (rest.1.0, (first.1, first.3, rest.1.1), rest.1.2), (first.2, rest.2))

  pub task_plan_back : (numbers : List ℕ) → IsTaskPlan t numbers → (steps : List (List ℕ × List (List ℕ))) × IsPlan p steps × AreNamed t numbers steps
  task_plan_back numbers plan = plan_back numbers (initial_world p) plan.0 (stood.first plan.0 plan.1) plan.2

  pub pair_plan_forward : (steps : List (List ℕ × List (List ℕ))) → IsPlan p steps → (st : StateValue) → IsInitialState t st
      → (numbers : List ℕ) × IsPlanFrom t st numbers × AreNamed t numbers steps
  pair_plan_forward steps plan st initial = plan_forward steps (initial_world p) st (stood.first st initial) plan

  pub both_solvable : (st : StateValue) → IsInitialState t st → ((steps : List (List ℕ × List (List ℕ))) × IsPlan p steps) ↔ ((numbers : List ℕ) × IsTaskPlan t numbers)
  both_solvable st initial = (
    λ found. let plan = pair_plan_forward found.0 found.1 st initial in (plan.0, (st, initial, plan.1)),
    λ found. let plan = task_plan_back found.0 found.1 in (plan.0, plan.1),
  )
