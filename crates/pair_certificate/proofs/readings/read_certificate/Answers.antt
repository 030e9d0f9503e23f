use Rattle.std.proofs.Common.{sym, subst}
use Rattle.pair_certificate.specs.Readings.{IsFault}
use Rattle.pair_certificate.proofs.Answered.{of_grounding, of_line}
use Rattle.pair_certificate.proofs.readings.read_certificate.Goals as goal

pub returns-in-Ok-read_cert-clause-read : goal.returns-in-Ok-read_cert-clause-read
returns-in-Ok-read_cert-clause-read c = record { is_task = c.in-Ok.ensures.task; reads = c.in-Ok-read_cert.ensures.answer }

pub returns-in-Err-read_cert-clause-fault : goal.returns-in-Err-read_cert-clause-fault
returns-in-Err-read_cert-clause-fault c =
    subst (IsFault c.args.domain.now c.args.problem.now c.args.certificate.now) (sym c.line_fault.ensures)
    (of_line c.args.domain.now c.args.problem.now c.args.certificate.now c.in-Ok.task c.in-Err-read_cert.fault c.in-Ok.ensures.task c.in-Err-read_cert.ensures.answer)

pub returns-in-Err-clause-fault : goal.returns-in-Err-clause-fault
returns-in-Err-clause-fault c = of_grounding c.args.domain.now c.args.problem.now c.args.certificate.now c.in-Err.fault c.in-Err.ensures.fault
