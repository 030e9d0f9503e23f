use Rattle.certify_command.proofs.Answered.{of_check}
use Rattle.certify_command.proofs.answers.task_answer.Goals as goal

pub returns : goal.returns
returns c =
    of_check c.args.task.now c.args.cert.now c.in_ok-checked.checked c.checked_answer.result
    c.in_ok-checked.ensures.answer c.in_ok-checked.ensures.no_plan c.checked_answer.ensures
