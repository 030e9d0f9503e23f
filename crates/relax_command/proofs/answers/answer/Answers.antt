use Rattle.relax_command.proofs.Answered.{of_refusal}
use Rattle.relax_command.proofs.LeastBox.{relaxed_answer}
use Rattle.relax_command.proofs.answers.answer.Goals as goal

pub returns-in-Ok : goal.returns-in-Ok
returns-in-Ok c =
    relaxed_answer c.args.domain.now c.args.problem.now c.in-Ok.task c.relaxed.result c.requires.domain_size c.requires.problem_size c.in-Ok.ensures.task c.relaxed.ensures

pub returns-in-Err-Refused : goal.returns-in-Err-Refused
returns-in-Err-Refused c =
    of_refusal c.args.domain.now c.args.problem.now c.in-Err-Refused.refusal c.refused.result
    (rw c.in-Err-Refused.field-0-is at c.in-Err-Refused.ensures.fault) c.refused.ensures
