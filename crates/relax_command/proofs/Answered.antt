-- From a refusal to the command's answer.
use Rattle.std.proofs.Common.{◌≡◌, ℕ, List, Result, Ok, Err, IfOk, sym, subst}
use Rattle.pair_task.specs.Refusals.{IsRefusal}
use Rattle.pair_text.specs.declared.refusals.Refusal.{Refusal}
use Rattle.run_answers.specs.Refused.{refused}
use Rattle.run_answers.specs.declared.answers.Answer.{Answer}
use Rattle.relax_command.specs.Answers.{IsAnswer}
use Rattle.relax_command.specs.Answers.IsAnswer.{refusal}

pub of_refusal : {E : Type 0} (domain problem : List ℕ) (r : Refusal) (result : Result Answer E) → IsRefusal domain problem r → IfOk result (λ answer. answer ≡ refused r) → IfOk result (IsAnswer domain problem)
of_refusal domain problem r (Err e) why is = tt
of_refusal domain problem r (Ok answer) why is = subst (IsAnswer domain problem) (sym is) (refusal r why)
