-- The verdict on a plan file for a pair, with its line and its status.
use Rattle.std.specs.Prelude.{ℕ, ◌≡◌, ◌++◌, List, codes, decimal, length}
use Rattle.pddl_types.specs.declared.pairs.Pair.{Pair}
use Rattle.plan_text.specs.Plans.{ReadsAs}
use Rattle.plan_text.specs.declared.step.Step.{Step}
use Rattle.plan_validator.specs.Verdicts.{IsPlanOf, IsVerdict}
use Rattle.plan_validator.specs.declared.verdicts.Verdict.{Verdict}
use Rattle.plan_validator.specs.declared.verdicts.Verdict.TheVariants.{Valid, Blocked, Illegal, Over, OverGoal, NotGoal}
use Rattle.run_answers.specs.declared.answers.Answer.{Answer}

-- the plan's text reads as so many steps, on which this is the verdict; those of a valid plan lead to the goal, without bounds
pub record IsValidated (plan : List ℕ) (v : Verdict) (count : ℕ) (pair : Pair) : Type 0 where
  pub steps : List Step
  pub read : ReadsAs plan steps
  pub as_many : count ≡ length steps
  pub is_verdict : IsVerdict pair steps v
  pub is_plan : v ≡ Valid → IsPlanOf pair steps

-- the line of a verdict on so many steps
abbrev pub verdict_line : Verdict → ℕ → List ℕ
verdict_line Valid count = codes "VALID " ++ decimal count ++ codes "\n"
verdict_line (Blocked number) count = codes "INVALID " ++ decimal number ++ codes " blocked\n"
verdict_line (Illegal number) count = codes "INVALID " ++ decimal number ++ codes " illegal\n"
verdict_line (Over number) count = codes "OVERFLOW " ++ decimal number ++ codes "\n"
verdict_line OverGoal count = codes "OVERFLOW goal\n"
verdict_line NotGoal count = codes "INVALID goal\n"

abbrev pub verdict_status : Verdict → ℕ
verdict_status Valid = 0
verdict_status (Blocked number) = 1
verdict_status (Illegal number) = 1
verdict_status (Over number) = 3
verdict_status OverGoal = 3
verdict_status NotGoal = 1

abbrev pub verdict_answer : Verdict → ℕ → Answer
verdict_answer v count = record { status = verdict_status v; text = verdict_line v count }
