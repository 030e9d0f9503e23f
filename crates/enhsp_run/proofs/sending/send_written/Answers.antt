use Rattle.enhsp_run.proofs.Endings.{answer_cut}
use Rattle.enhsp_run.proofs.sending.send_written.Goals as goal

pub returns-in-Err-clause-end : goal.returns-in-Err-clause-end
returns-in-Err-clause-end g c =
    answer_cut _ _ _ _ c.ended-in-Err.result c.ended-in-Err.ensures.found c.args.answer.now c.ended-in-Err.ensures.status
    (rw c.as_slice.ensures at c.in-Err.ensures.bytes) c.in-Err.ensures.cause.failed
