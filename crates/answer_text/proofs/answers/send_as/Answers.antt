use Rattle.std.proofs.Common.{◌≡◌, Err, rules}
use Rattle.answer_text.proofs.Nonempty.{lines_some}
use Rattle.answer_text.proofs.Told.{sent_lines, unsent_text}
use Rattle.answer_text.specs.declared.faults.Unsent.TheVariants as unsent
use Rattle.answer_text.specs.internal.Listed.{lines_of}
use Rattle.answer_text.proofs.answers.send_as.Goals as goal

pub returns-in_err-lines-clause-text : goal.returns-in_err-lines-clause-text
returns-in_err-lines-clause-text g c =
    let is_err : c.from_residual.result ≡ Err unsent.NoMemory = search rules in
    rw is_err (unsent_text c.args.found.now c.args.answer (g.S.Sink.written c.args.sink.now) c.requires.told)

pub send-sent-requires-clause-some : goal.send-sent-requires-clause-some
send-sent-requires-clause-some g c = lines_some c.args.found.now c.args.answer _ c.in_ok-lines.ensures.lines

pub returns-clause-text : goal.returns-clause-text
returns-clause-text g c = sent_lines c.args.found.now c.args.answer (g.S.Sink.written c.args.sink.now) (g.S.Sink.written c.send-sent.new.sink) (lines_of c.args.found.now.task c.in_ok-lines.lines) c.send-sent.result c.in_ok-lines.ensures.lines c.send-sent.ensures.text
