-- The ground task of the pair that two texts spell, and the plans of that pair.
use Rattle.std.specs.Prelude.{ℕ, ◌≤◌, ◌^◌, List, length}
use Rattle.ground_meaning.specs.Answers.{IsWholeTask}
use Rattle.ground_task.specs.Tasks.{TaskValue}
use Rattle.pair_text.specs.Reasons.{IsAcceptedPair}
use Rattle.pddl_meaning.specs.Steps.{IsPlan}
use Rattle.pddl_terms.specs.declared.limits.TheConstants.{MAX_SUPPORTERS}
use Rattle.pddl_types.specs.declared.pairs.Pair.{Pair}
use Rattle.run_answers.specs.Accepted.{Accepts}
use Rattle.supporter_count.specs.Counts.{supporter_count}

-- ---- tasks

-- the texts spell a pair that is well formed, and this is its ground task, whose places suffice
pub record IsWholeTaskOf (domain problem : List ℕ) (task : TaskValue) : Type 0 where
  pub pair : Pair
  pub accepted : IsAcceptedPair domain problem pair
  pub whole : IsWholeTask pair task

-- and it has few enough supporters
pub record IsTaskOf (domain problem : List ℕ) (task : TaskValue) : Type 0 where
  pub whole : IsWholeTaskOf domain problem task
  pub few_supporters : supporter_count task ≤ MAX_SUPPORTERS

-- ---- accepted texts

-- no reason stands against the texts, however many supporters their task has
pub record IsGroundable (domain problem : List ℕ) : Type 0 where
  pub few_in_domain : length domain ≤ 2 ^ 30
  pub few_in_problem : length problem ≤ 2 ^ 30
  pub task : TaskValue
  pub is_task : IsWholeTaskOf domain problem task

-- no reason stands against the texts
pub record IsAccepted (domain problem : List ℕ) : Type 0 where
  pub few_in_domain : length domain ≤ 2 ^ 30
  pub few_in_problem : length problem ≤ 2 ^ 30
  pub task : TaskValue
  pub is_task : IsTaskOf domain problem task

-- ---- plans

-- the steps, each a name with its arguments, are a plan of the well-formed pair that the texts spell
abbrev pub IsPlanOfTexts : List ℕ → List ℕ → List (List ℕ × List (List ℕ)) → Type 0
IsPlanOfTexts domain problem steps = Accepts (λ pair. IsPlan pair steps) domain problem
