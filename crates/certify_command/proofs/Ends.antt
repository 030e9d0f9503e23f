-- How the command ends.
use Rattle.std.proofs.Common.{ℕ, List, [], ◌∷◌, Contains, refl, sym, subst, arith}
use Rattle.cert_check.specs.declared.answers.Checked.{Checked}
use Rattle.cert_check.specs.declared.answers.Checked.TheVariants.{Certified, Refused}
use Rattle.pair_certificate.proofs.OneReading.{no_refusal}
use Rattle.run_answers.proofs.Statuses.{in_front, refused_status}
use Rattle.run_answers.specs.declared.answers.Answer.{Answer}
use Rattle.certify_command.specs.Answers.{IsAccepted, IsAnswer, statuses}
use Rattle.certify_command.specs.Answers.IsAnswer.{checked, refusal}
use Rattle.certify_command.specs.Verdicts.{IsVerdict, checked_status}

checked_known : (c : Checked) → Contains statuses (checked_status c)
checked_known Certified = (0, omega arith, refl)
checked_known (Refused line reason) = (1, omega arith, refl)

verdict_known : (domain problem certificate : List ℕ) (answer : Answer) → IsVerdict domain problem certificate answer → Contains statuses answer.status
verdict_known domain problem certificate answer is =
    subst (λ (a : Answer). Contains statuses a.status) (sym is.verdict.is) (checked_known is.verdict.checked)

-- to accepted texts the command answers whether the certificate is certified
pub accepted_status : (domain problem certificate : List ℕ) (answer : Answer) → IsAccepted domain problem certificate → IsAnswer domain problem certificate answer → Contains statuses answer.status
accepted_status domain problem certificate answer accepted (checked a is) = verdict_known domain problem certificate a is
accepted_status domain problem certificate answer accepted (refusal r is) = absurd (no_refusal domain problem certificate r accepted is)

-- to other texts too, or it refuses them
pub known_status : (domain problem certificate : List ℕ) (answer : Answer) → IsAnswer domain problem certificate answer → Contains (0 ∷ 1 ∷ 3 ∷ 4 ∷ []) answer.status
known_status domain problem certificate answer (checked a is) = in_front statuses (3 ∷ 4 ∷ []) _ (verdict_known domain problem certificate a is)
known_status domain problem certificate answer (refusal r is) =
    subst (Contains (0 ∷ 1 ∷ 3 ∷ 4 ∷ [])) (sym (refused_status r)) (3, omega arith, refl)
