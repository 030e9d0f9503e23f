-- Two texts have one ground task, which stands for the pair that they spell.
use Rattle.std.proofs.Common.{◌≡◌, ◌≤◌, ◌^◌, ℕ, List, length, subst}
use Rattle.ground_meaning.proofs.FirstStanding.{initial_stands}
use Rattle.ground_meaning.proofs.OneTask.{one_task}
use Rattle.ground_meaning.proofs.PlansBothWays.{pair_plan_forward, task_plan_back}
use Rattle.ground_meaning.proofs.StandsWhole.{stands_for}
use Rattle.ground_meaning.specs.Answers.{IsWholeTask}
use Rattle.ground_meaning.specs.Plans.{AreNamed}
use Rattle.ground_meaning.specs.Worlds.{StandsFor}
use Rattle.ground_task.proofs.StateNumbers.{first_is_initial}
use Rattle.ground_task.specs.States.{StateValue}
use Rattle.ground_task.specs.Steps.{IsPlanFrom, IsTaskPlan}
use Rattle.ground_task.specs.Tasks.{IsInitialState, TaskValue, first_state}
use Rattle.pair_text.proofs.OneReason.{one_pair}
use Rattle.pair_text.specs.Reasons.{IsAcceptedPair}
use Rattle.pddl_grammar.proofs.ReadableTexts.{domain_readable, problem_readable}
use Rattle.pddl_meaning.specs.Steps.{IsPlan}
use Rattle.pddl_terms.specs.Readable.{IsReadable}
use Rattle.pddl_types.specs.declared.pairs.Pair.{Pair}
use Rattle.pair_task.specs.Tasks.{IsPlanOfTexts, IsWholeTaskOf}

module _ (domain problem : List ℕ) (few_in_domain : length domain ≤ 2 ^ 30) (few_in_problem : length problem ≤ 2 ^ 30) where
  pub readable_pair : (pair : Pair) → IsAcceptedPair domain problem pair → IsReadable pair.domain pair.problem
  readable_pair pair is =
      record {
        domain = domain_readable domain pair.domain few_in_domain is.domain_spelled;
        problem = problem_readable problem pair.problem few_in_problem is.problem_spelled;
      }

  pub same_task : (task other : TaskValue) → IsWholeTaskOf domain problem task → IsWholeTaskOf domain problem other → task ≡ other
  same_task task other is that =
      let same : that.pair ≡ is.pair = one_pair domain problem that.pair is.pair that.accepted is.accepted in
      let whole : IsWholeTask is.pair other = subst (λ (p : Pair). IsWholeTask p other) same that.whole in
      one_task is.pair (readable_pair is.pair is.accepted) task other is.whole.grounded whole.grounded

  pub stands : (task : TaskValue) (is : IsWholeTaskOf domain problem task) → StandsFor is.pair task
  stands task is =
      let readable = readable_pair is.pair is.accepted in
      let grounded = is.whole.grounded in
      stands_for is.pair readable is.accepted.well_formed task grounded.task is.whole.placed
      (λ st initial. initial_stands is.pair readable is.accepted.well_formed task grounded.task st initial)

  pub plan_back : (task : TaskValue) → IsWholeTaskOf domain problem task → (numbers : List ℕ) → IsTaskPlan task numbers
      → (steps : List (List ℕ × List (List ℕ))) × IsPlanOfTexts domain problem steps × AreNamed task numbers steps
  plan_back task is numbers plan =
      let found = task_plan_back is.pair task (stands task is) numbers plan in
      (found.0, (is.pair, is.accepted, found.1), found.2)

  pub plan_forward : (task : TaskValue) → IsWholeTaskOf domain problem task → (steps : List (List ℕ × List (List ℕ))) → IsPlanOfTexts domain problem steps
      → (st : StateValue) → IsInitialState task st → (numbers : List ℕ) × IsPlanFrom task st numbers × AreNamed task numbers steps
  plan_forward task is steps plan st initial =
      let same : plan.0 ≡ is.pair = one_pair domain problem plan.0 is.pair plan.1 is.accepted in
      pair_plan_forward is.pair task (stands task is) steps (subst (λ (p : Pair). IsPlan p steps) same plan.2) st initial

  pub no_plan : (task : TaskValue) → IsWholeTaskOf domain problem task → ((numbers : List ℕ) → IsTaskPlan task numbers → ⊥)
      → (steps : List (List ℕ × List (List ℕ))) → IsPlanOfTexts domain problem steps → ⊥
  no_plan task is none steps plan =
      let first = first_state task.raw task.places in
      let initial = first_is_initial task is.whole.placed in
      let found = plan_forward task is steps plan first initial in
      none found.0 (first, initial, found.1)
