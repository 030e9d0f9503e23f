use Rattle.answer_text.proofs.Told.{answer_cut}
use Rattle.answer_text.proofs.answers.write_answer.Goals as goal

pub returns-in-Err-clause-text : goal.returns-in-Err-clause-text
returns-in-Err-clause-text g c =
    answer_cut c.args.found.now (g.S.Sink.written c.args.sink.now) (g.S.Sink.written c.send_answer.new.sink) c.in-Err.fault c.in-Err.ensures.text
