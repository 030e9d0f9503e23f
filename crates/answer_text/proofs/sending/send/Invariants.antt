use Rattle.std.proofs.Common.{◌≡◌, false, take}
use Rattle.std.specs.List.{concat}
use Rattle.answer_text.specs.internal.Held.{AreSent}
use Rattle.answer_text.specs.internal.Listed.{lines_of}
use Rattle.answer_text.proofs.sending.send.Given as goal

abbrev pub invariant-lines : goal.invariant-lines
invariant-lines g l = record {
  sent : AreSent false l.is_begun (g.S.Sink.written l.fn.sink) (g.S.Sink.written l.sink) l.held (concat (take l.number (lines_of l.task l.lines)));
  no_fault : g.S.Sink.faults l.sink ≡ g.S.Sink.faults l.fn.sink;
}
