use Rattle.enhsp_run.specs.Commands.{entry_of}
use Rattle.enhsp_run.proofs.Answered.{of_unbuilt}
use Rattle.enhsp_run.proofs.answers.of_job.Goals as goal

pub returns-in_ok-refused-in-None-clause-answer : goal.returns-in_ok-refused-in-None-clause-answer
returns-in_ok-refused-in-None-clause-answer g c =
    of_unbuilt g.F.Files c.args.files.now (entry_of c.args.job.now.command) c.args.job.now c.in_ok-refused-in-None.field-0 c.in-None.ensures
    c.in_ok-refused-in-None.ensures
