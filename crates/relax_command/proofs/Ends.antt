-- How the command ends.
use Rattle.std.proofs.Common.{ℕ, List, [], ◌∷◌, Bool, true, false, Contains, refl, sym, subst, arith, if◌then◌else◌}
use Rattle.pair_task.proofs.OneAnswer.{no_refusal}
use Rattle.run_answers.proofs.Statuses.{in_front, refused_status}
use Rattle.run_answers.specs.declared.answers.Answer.{Answer}
use Rattle.relax_command.specs.Answers.{IsAccepted, IsAnswer, statuses}
use Rattle.relax_command.specs.Answers.IsAnswer.{relaxed, refusal}
use Rattle.relax_command.specs.Relaxations.{IsRelaxed, is_met}

box_status : (met : Bool) → Contains statuses (if met then 0 else 1)
box_status true = (0, omega arith, refl)
box_status false = (1, omega arith, refl)

relaxed_status : (domain problem : List ℕ) (answer : Answer) → IsRelaxed domain problem answer → Contains statuses answer.status
relaxed_status domain problem answer is =
    subst (λ (a : Answer). Contains statuses a.status) (sym is.answers.is) (box_status (is_met is.task is.answers.box))

-- to accepted texts the command answers whether the goal is met or missed
pub accepted_status : (domain problem : List ℕ) (answer : Answer) → IsAccepted domain problem → IsAnswer domain problem answer → Contains statuses answer.status
accepted_status domain problem answer accepted (relaxed a is) = relaxed_status domain problem a is
accepted_status domain problem answer accepted (refusal r is) = absurd (no_refusal domain problem r accepted is)

-- to other texts too, or it refuses them
pub known_status : (domain problem : List ℕ) (answer : Answer) → IsAnswer domain problem answer → Contains (0 ∷ 1 ∷ 3 ∷ 4 ∷ []) answer.status
known_status domain problem answer (relaxed a is) = in_front statuses (3 ∷ 4 ∷ []) _ (relaxed_status domain problem a is)
known_status domain problem answer (refusal r is) = subst (Contains (0 ∷ 1 ∷ 3 ∷ 4 ∷ [])) (sym (refused_status r)) (3, omega arith, refl)
