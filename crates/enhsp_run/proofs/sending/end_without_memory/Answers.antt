use Rattle.enhsp_run.proofs.Endings.{line_cut, line_end}
use Rattle.enhsp_run.proofs.sending.end_without_memory.Goals as goal

pub returns-in-Ok : goal.returns-in-Ok
returns-in-Ok g c =
    line_end _ _ _ _ c.ended.result c.ended.ensures.found c.ended.ensures.status c.in-Ok.ensures.bytes c.in-Ok.ensures.cause.kept

pub returns-in-Err : goal.returns-in-Err
returns-in-Err g c =
    line_cut _ _ _ _ c.ended-in-Err.result c.ended-in-Err.ensures.found c.ended-in-Err.ensures.status c.in-Err.ensures.bytes c.in-Err.ensures.cause.failed
