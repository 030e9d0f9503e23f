use Rattle.std.proofs.Common.{◌∙◌, sym}
use Rattle.enhsp_run.proofs.sending.send_found.Goals as goal

pub returns : goal.returns
returns g c =
    let text = c.send_text-sent.ensures.text in
    (text.0, text.1, c.end_sent.ensures text.0 _ _ (text.1.status ∙ sym (c.status_in-status.ensures text.1.answer text.1.is_answer)) text.1.found text.2 c.send_text-sent.ensures.cause)
