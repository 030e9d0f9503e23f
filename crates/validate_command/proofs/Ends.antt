-- How the command ends.
use Rattle.std.proofs.Common.{◌≡◌, ℕ, List, [], ◌∷◌, Contains, refl, sym, subst, arith}
use Rattle.pair_text.proofs.OneReason.{pair_or_reason}
use Rattle.pair_text.specs.declared.refusals.Refusal.{Refusal}
use Rattle.plan_text.proofs.Answered.{read_or_bad}
use Rattle.plan_validator.specs.declared.verdicts.Verdict.{Verdict}
use Rattle.plan_validator.specs.declared.verdicts.Verdict.TheVariants as verdict
use Rattle.run_answers.proofs.Statuses.{in_front, refused_status}
use Rattle.run_answers.specs.declared.answers.Answer.{Answer}
use Rattle.validate_command.specs.Answers.{IsAccepted, IsAnswer, IsRefusal, statuses}
use Rattle.validate_command.specs.Answers.IsAnswer.{validated, refusal}
use Rattle.validate_command.specs.Answers.IsRefusal.{reason, bad_line}
use Rattle.validate_command.specs.Validations.{verdict_status}

verdict_known : (v : Verdict) → Contains statuses (verdict_status v)
verdict_known verdict.Valid = (0, omega arith, refl)
verdict_known (verdict.Blocked number) = (1, omega arith, refl)
verdict_known (verdict.Illegal number) = (1, omega arith, refl)
verdict_known (verdict.Over number) = (2, omega arith, refl)
verdict_known verdict.OverGoal = (2, omega arith, refl)
verdict_known verdict.NotGoal = (1, omega arith, refl)

-- accepted texts aren't refused
no_refusal : (domain problem plan : List ℕ) (r : Refusal) → IsAccepted domain problem plan → IsRefusal domain problem plan r → ⊥
no_refusal domain problem plan r accepted (reason r' first) = pair_or_reason domain problem accepted.0 r' accepted.1 first
no_refusal domain problem plan r accepted (bad_line line other) = read_or_bad plan accepted.2.0 line accepted.2.1 other.2

-- to accepted texts the command answers by a verdict
pub accepted_status : (domain problem plan : List ℕ) (answer : Answer) → IsAccepted domain problem plan → IsAnswer domain problem plan answer → Contains statuses answer.status
accepted_status domain problem plan answer accepted (validated v count is) = verdict_known v
accepted_status domain problem plan answer accepted (refusal r is) = absurd (no_refusal domain problem plan r accepted is)

-- to other texts too, or it refuses them
pub known_status : (domain problem plan : List ℕ) (answer : Answer) → IsAnswer domain problem plan answer → Contains (0 ∷ 1 ∷ 3 ∷ 4 ∷ []) answer.status
known_status domain problem plan answer (validated v count is) = in_front statuses (4 ∷ []) _ (verdict_known v)
known_status domain problem plan answer (refusal r is) = subst (Contains (0 ∷ 1 ∷ 3 ∷ 4 ∷ [])) (sym (refused_status r)) (3, omega arith, refl)
