-- From what the command found to its answer.
use Rattle.std.proofs.Common.{◌≡◌, ℕ, List, Result, Ok, Err, IfErr, IfOk, refl, sym, subst}
use Rattle.pair_text.specs.Reasons.{IsPairFault}
use Rattle.pair_text.specs.declared.refusals.PairFault.{PairFault}
use Rattle.pair_text.specs.declared.refusals.PairFault.TheVariants as fault
use Rattle.pair_text.specs.declared.refusals.Refusal.{Refusal}
use Rattle.pair_text.specs.Reasons.{IsAcceptedPair}
use Rattle.pddl_types.specs.declared.pairs.Pair.{Pair}
use Rattle.plan_validator.specs.declared.verdicts.Verdict.{Verdict}
use Rattle.run_answers.specs.Accepted.{Accepts}
use Rattle.run_answers.specs.Refused.{refused}
use Rattle.run_answers.specs.declared.answers.Answer.{Answer}
use Rattle.validate_command.specs.Answers.{IsAnswer, IsRefusal}
use Rattle.validate_command.specs.Answers.IsAnswer.{validated, refusal}
use Rattle.validate_command.specs.Answers.IsRefusal.{reason, bad_line}
use Rattle.validate_command.specs.Faults.{IsFault, IsPlanFault}
use Rattle.validate_command.specs.Validations.{IsValidated, verdict_answer}

-- a reason against the pair is one against the texts
pub of_pair : (domain problem plan : List ℕ) (f : PairFault) → IsPairFault domain problem f → IsFault domain problem plan f
of_pair domain problem plan (fault.Refused r) is = reason r is
of_pair domain problem plan fault.NoMemory is = tt

-- and so is one against the plan for the pair that the texts spell
pub of_plan : {A : Type 0} (domain problem plan : List ℕ) (pair : Pair) (result : Result A PairFault) → IsAcceptedPair domain problem pair → IfErr result (IsPlanFault plan) → IfErr result (IsFault domain problem plan)
of_plan domain problem plan pair (Ok v) accepted is = tt
of_plan domain problem plan pair (Err (fault.Refused r)) accepted is =
    subst (IsRefusal domain problem plan) (sym is.1) (bad_line is.0 (pair, accepted, is.2))
of_plan domain problem plan pair (Err fault.NoMemory) accepted is = tt

pub of_verdict : {E : Type 0} (domain problem plan : List ℕ) (v : Verdict) (count : ℕ) (result : Result Answer E) → Accepts (IsValidated plan v count) domain problem → IfOk result (λ answer. answer ≡ verdict_answer v count) → IfOk result (IsAnswer domain problem plan)
of_verdict domain problem plan v count (Err e) accepts is = tt
of_verdict domain problem plan v count (Ok answer) accepts is =
    subst (IsAnswer domain problem plan) (sym is) (validated v count accepts)

pub of_refusal : {E : Type 0} (domain problem plan : List ℕ) (r : Refusal) (result : Result Answer E) → IsRefusal domain problem plan r → IfOk result (λ answer. answer ≡ refused r) → IfOk result (IsAnswer domain problem plan)
of_refusal domain problem plan r (Err e) why is = tt
of_refusal domain problem plan r (Ok answer) why is = subst (IsAnswer domain problem plan) (sym is) (refusal r why)
