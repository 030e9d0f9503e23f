use Rattle.enhsp_run.proofs.Endings.{summary_sent, whole_sent}
use Rattle.enhsp_run.proofs.sending.send_text.Goals as goal

pub returns-in-Whole-clause-text : goal.returns-in-Whole-clause-text
returns-in-Whole-clause-text g c =
    whole_sent c.args.form c.args.found.now _ _ c.send_answer.result c.in-Whole.is c.send_answer.ensures.text

pub returns-in-Summary-clause-text : goal.returns-in-Summary-clause-text
returns-in-Summary-clause-text g c =
    summary_sent c.args.form c.in-Summary.size c.args.found.now _ _ c.send_summary.result c.in-Summary.is c.send_summary.ensures.text
