use Rattle.answer_text.proofs.Told.{summary_cut}
use Rattle.answer_text.proofs.summary.write_summary.Goals as goal

pub returns-in-Err-clause-text : goal.returns-in-Err-clause-text
returns-in-Err-clause-text g c =
    summary_cut c.args.size c.args.found.now (g.S.Sink.written c.args.sink.now) (g.S.Sink.written c.send_summary.new.sink) c.in-Err.fault c.in-Err.ensures.text
