use Rattle.std.proofs.lemmas.Result.{IfOk-weaker}
use Rattle.upgrade_command.proofs.Answered.{of_reading}
use Rattle.upgrade_command.proofs.reading.read.Goals as goal

pub returns-clause-answer : goal.returns-clause-answer
returns-clause-answer c =
    IfOk-weaker c.read_certificate.result _ _ (λ r reading. of_reading c.args.domain.now c.args.problem.now c.requires.domain_size c.requires.problem_size c.args.certificate.now r.task r.cert reading) c.read_certificate.ensures.read
