-- The verdict on a list of steps: what each step, and the goal behind the last one, says within the range of the decimals.
use Rattle.std.specs.Prelude.{ℕ, ◌≡◌, ◌+◌, ◌++◌, List, [], ◌∷◌, length, map}
use Rattle.pddl_types.specs.declared.pairs.Pair.{Pair}
use Rattle.pddl_meaning.specs.declared.answers.Holds.{Holds}
use Rattle.pddl_meaning.specs.declared.answers.Holds.TheVariants as truth
use Rattle.pddl_meaning.specs.declared.answers.Stepped.{Stepped}
use Rattle.pddl_meaning.specs.declared.answers.Stepped.TheVariants as answer
use Rattle.pddl_meaning.specs.Worlds.{WorldValue, initial_world}
use Rattle.pddl_meaning.specs.Truth.{ranged_goal}
use Rattle.pddl_meaning.specs.Steps.{ranged_step, IsPlan}
use Rattle.plan_text.specs.declared.step.Step.{Step}
use Rattle.plan_validator.specs.declared.verdicts.Verdict.{Verdict}
use Rattle.plan_validator.specs.declared.verdicts.Verdict.TheVariants as verdict

-- what a step does in a world
abbrev pub answer_to : Pair → WorldValue → Step → Stepped
answer_to pair world step = ranged_step pair world step.name step.args

-- the steps, each with a next world, lead one after another from the one world to the other
abbrev pub RangedLead : Pair → WorldValue → List Step → WorldValue → Type 0
RangedLead pair world [] last = world ≡ last
RangedLead pair world (step ∷ steps) last =
    (next : WorldValue) × (answer_to pair world step ≡ answer.Next next) × RangedLead pair next steps last

-- the steps before the one with this number, counted from 1, lead from the first world to one in which it has this answer
pub record FailsAt (pair : Pair) (steps : List Step) (number : ℕ) (failure : Stepped) : Type 0 where
  pub before : List Step
  pub step : Step
  pub rest : List Step
  pub spelled : steps ≡ before ++ step ∷ rest
  pub place : number ≡ length before + 1
  pub world : WorldValue
  pub led : RangedLead pair (initial_world pair) before world
  pub fails : answer_to pair world step ≡ failure

-- all steps lead from the first world to one in which the goal has this answer
pub record EndsWith (pair : Pair) (steps : List Step) (goal : Holds) : Type 0 where
  pub last : WorldValue
  pub led : RangedLead pair (initial_world pair) steps last
  pub ends : ranged_goal pair last ≡ goal

-- the verdict on the steps
abbrev pub IsVerdict : Pair → List Step → Verdict → Type 0
IsVerdict pair steps verdict.Valid = EndsWith pair steps truth.Yes
IsVerdict pair steps (verdict.Blocked number) = FailsAt pair steps number answer.Blocked
IsVerdict pair steps (verdict.Illegal number) = FailsAt pair steps number answer.Illegal
IsVerdict pair steps (verdict.Over number) = FailsAt pair steps number answer.Over
IsVerdict pair steps verdict.OverGoal = EndsWith pair steps truth.Over
IsVerdict pair steps verdict.NotGoal = EndsWith pair steps truth.No

-- the steps, as names with their arguments, are a plan without bounds
abbrev pub IsPlanOf : Pair → List Step → Type 0
IsPlanOf pair steps = IsPlan pair (map (λ step. (step.name, step.args)) steps)

-- the steps are valid, or a number leaves the range at one of them or at the goal
abbrev pub IsValidOrOver : Verdict → Type 0
IsValidOrOver verdict.Valid = Unit {0}
IsValidOrOver (verdict.Blocked number) = ⊥
IsValidOrOver (verdict.Illegal number) = ⊥
IsValidOrOver (verdict.Over number) = Unit {0}
IsValidOrOver verdict.OverGoal = Unit {0}
IsValidOrOver verdict.NotGoal = ⊥
