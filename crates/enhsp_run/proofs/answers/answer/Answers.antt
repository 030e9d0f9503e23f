use Rattle.enhsp_run.proofs.Answered.{of_no_job}
use Rattle.enhsp_run.proofs.answers.answer.Goals as goal

pub returns-in_ok-usage-in-Err-Usage-clause-answer : goal.returns-in_ok-usage-in-Err-Usage-clause-answer
returns-in_ok-usage-in-Err-Usage-clause-answer g c =
    of_no_job g.F.Files c.args.files.now _ c.in_ok-usage-in-Err-Usage.field-0 (rw c.in-Err-Usage.field-0-is at c.in-Err-Usage.ensures)
    c.in_ok-usage-in-Err-Usage.ensures
