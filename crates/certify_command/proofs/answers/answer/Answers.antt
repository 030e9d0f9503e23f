use Rattle.certify_command.proofs.Answered.{of_refusal, of_verdict}
use Rattle.certify_command.proofs.answers.answer.Goals as goal

pub returns-in-Ok : goal.returns-in-Ok
returns-in-Ok c =
    of_verdict c.args.domain.now c.args.problem.now c.args.certificate.now c.in-Ok.read.task c.in-Ok.read.cert c.task_answer-answer.result
    c.requires.domain_size c.requires.problem_size c.in-Ok.ensures.read c.task_answer-answer.ensures

pub returns-in-Err-Refused : goal.returns-in-Err-Refused
returns-in-Err-Refused c =
    of_refusal c.args.domain.now c.args.problem.now c.args.certificate.now c.in-Err-Refused.refusal c.refused.result
    (rw c.in-Err-Refused.field-0-is at c.in-Err-Refused.ensures.fault) c.refused.ensures
