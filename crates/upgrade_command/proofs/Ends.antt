-- How the command ends.
use Rattle.std.proofs.Common.{ℕ, List, [], ◌∷◌, Contains, refl, sym, subst, arith}
use Rattle.pair_certificate.proofs.OneReading.{no_refusal}
use Rattle.run_answers.proofs.Statuses.{in_front, refused_status}
use Rattle.run_answers.specs.declared.answers.Answer.{Answer}
use Rattle.upgrade_command.specs.Answers.{IsAccepted, IsAnswer, IsUpgraded, statuses}
use Rattle.upgrade_command.specs.Answers.IsAnswer.{written, refusal}

upgraded_known : (domain problem certificate : List ℕ) (answer : Answer) → IsUpgraded domain problem certificate answer → Contains statuses answer.status
upgraded_known domain problem certificate answer is = subst (λ (a : Answer). Contains statuses a.status) (sym is.is) (0, omega arith, refl)

-- to accepted texts the command answers by the certificate in version 2
pub accepted_status : (domain problem certificate : List ℕ) (answer : Answer) → IsAccepted domain problem certificate → IsAnswer domain problem certificate answer → Contains statuses answer.status
accepted_status domain problem certificate answer accepted (written a is) = upgraded_known domain problem certificate a is
accepted_status domain problem certificate answer accepted (refusal r is) = absurd (no_refusal domain problem certificate r accepted is)

-- to other texts too, or it refuses them
pub known_status : (domain problem certificate : List ℕ) (answer : Answer) → IsAnswer domain problem certificate answer → Contains (0 ∷ 1 ∷ 3 ∷ 4 ∷ []) answer.status
known_status domain problem certificate answer (written a is) = in_front statuses (1 ∷ 3 ∷ 4 ∷ []) _ (upgraded_known domain problem certificate a is)
known_status domain problem certificate answer (refusal r is) =
    subst (Contains (0 ∷ 1 ∷ 3 ∷ 4 ∷ [])) (sym (refused_status r)) (3, omega arith, refl)
