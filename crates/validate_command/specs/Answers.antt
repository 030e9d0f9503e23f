-- What `validate` may answer to the texts of a domain, a problem and a plan.
use Rattle.std.specs.Prelude.{ℕ, List, [], ◌∷◌}
use Rattle.pair_text.specs.Reasons.{IsFirstReason}
use Rattle.pair_text.specs.declared.refusals.Refusal.{Refusal}
use Rattle.pair_text.specs.declared.refusals.Refusal.TheVariants.{BadLine}
use Rattle.plan_text.specs.Plans.{IsFirstBad, ReadsAs}
use Rattle.plan_text.specs.declared.step.Step.{Step}
use Rattle.plan_validator.specs.declared.verdicts.Verdict.{Verdict}
use Rattle.run_answers.specs.Accepted.{Accepts}
use Rattle.run_answers.specs.Refused.{refused}
use Rattle.run_answers.specs.declared.answers.Answer.{Answer}
use Rattle.validate_command.specs.Validations.{IsValidated, verdict_answer}

-- Why the texts may be refused: by the first reason against domain and problem, or, where these spell a well-formed pair, by the
-- number of the plan's first line that is neither skipped nor a step.
pub data IsRefusal (domain problem plan : List ℕ) : Refusal → Type 0 where
  reason : (refusal : Refusal) → IsFirstReason domain problem refusal → IsRefusal domain problem plan refusal
  bad_line : (line : ℕ) → Accepts (λ pair. IsFirstBad plan line) domain problem → IsRefusal domain problem plan (BadLine line)

-- the verdict on the plan for the pair that the texts spell, or a refusal
pub data IsAnswer (domain problem plan : List ℕ) : Answer → Type 0 where
  validated : (v : Verdict) (count : ℕ) → Accepts (IsValidated plan v count) domain problem
      → IsAnswer domain problem plan (verdict_answer v count)
  refusal : (r : Refusal) → IsRefusal domain problem plan r → IsAnswer domain problem plan (refused r)

-- no reason stands against the texts
abbrev pub IsAccepted : List ℕ → List ℕ → List ℕ → Type 0
IsAccepted domain problem plan = Accepts (λ pair. (steps : List Step) × ReadsAs plan steps) domain problem

-- how the command ends where none does: valid, invalid, or out of the range of numbers
abbrev pub statuses : List ℕ
statuses = 0 ∷ 1 ∷ 3 ∷ []
