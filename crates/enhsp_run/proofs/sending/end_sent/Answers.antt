use Rattle.std.proofs.Common.{refl, sym}
use Rattle.enhsp_run.proofs.Endings.{cut_short, not_begun, sink_failed}
use Rattle.enhsp_run.proofs.sending.end_sent.Goals as goal

pub returns-in-Err-Sink : goal.returns-in-Err-Sink
returns-in-Err-Sink g c = λ told before faults status found sent cause.
    sink_failed told before _ faults _ c.args.sent c.in-Err-Sink.field-0 c.in-Err-Sink.is sent cause _ (rw c.in-Err-Sink.is at c.in-Err-Sink.field-0-is) refl (sym found)

pub returns-in-Err-CutShort : goal.returns-in-Err-CutShort
returns-in-Err-CutShort g c = λ told before faults status found sent cause.
    cut_short told before _ faults _ c.args.sent c.in-Err-CutShort.field-0 c.in-Err-CutShort.is sent cause _ (rw c.in-Err-CutShort.is at c.in-Err-CutShort.field-0-is) refl (sym found)

pub returns-in-Err-NoMemory : goal.returns-in-Err-NoMemory
returns-in-Err-NoMemory g c = λ told before faults status found sent cause.
    not_begun told before _ faults _ c.args.sent c.in-Err-NoMemory.field-0 c.in-Err-NoMemory.is sent cause _ _ c.end_without_memory.result
    (rw c.in-Err-NoMemory.is at c.in-Err-NoMemory.field-0-is) c.end_without_memory.ensures
