use Rattle.std.proofs.lemmas.Result.{IfOk-weaker}
use Rattle.validate_command.proofs.Answered.{of_pair, of_plan}
use Rattle.validate_command.proofs.validation.validation_of.Goals as goal

pub returns-in-Ok-clause-validated : goal.returns-in-Ok-clause-validated
returns-in-Ok-clause-validated c =
    IfOk-weaker c.validated-found.result _ _ (λ v judged. (c.in-Ok.checked, c.in-Ok.ensures.accepted, judged)) c.validated-found.ensures.validated

pub returns-in-Ok-clause-fault : goal.returns-in-Ok-clause-fault
returns-in-Ok-clause-fault c =
    of_plan c.args.domain.now c.args.problem.now c.args.plan.now c.in-Ok.checked c.validated-found.result
    c.in-Ok.ensures.accepted c.validated-found.ensures.fault

pub returns-in-Err-clause-fault : goal.returns-in-Err-clause-fault
returns-in-Err-clause-fault c = of_pair c.args.domain.now c.args.problem.now c.args.plan.now c.in-Err.fault c.in-Err.ensures.fault
