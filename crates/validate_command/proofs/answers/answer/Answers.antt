use Rattle.validate_command.proofs.Answered.{of_refusal, of_verdict}
use Rattle.validate_command.proofs.answers.answer.Goals as goal

pub returns-in-Ok : goal.returns-in-Ok
returns-in-Ok c =
    of_verdict c.args.domain.now c.args.problem.now c.args.plan.now c.in-Ok.found.verdict c.in-Ok.found.count c.verdict_answer.result
    c.in-Ok.ensures.validated c.verdict_answer.ensures

pub returns-in-Err-Refused : goal.returns-in-Err-Refused
returns-in-Err-Refused c =
    of_refusal c.args.domain.now c.args.problem.now c.args.plan.now c.in-Err-Refused.refusal c.refused.result
    (rw c.in-Err-Refused.field-0-is at c.in-Err-Refused.ensures.fault) c.refused.ensures
