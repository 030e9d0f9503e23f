use Rattle.std.proofs.Common.{◌<◌, ℕ, List, All, length, subst, sym}
use Rattle.answer_text.proofs.Nonempty.{certificate_some}
use Rattle.answer_text.proofs.upgrade.send_upgrade.Goals as goal

pub send-sent-requires-clause-some : goal.send-sent-requires-clause-some
send-sent-requires-clause-some g c =
    subst (λ (lines : List (List ℕ)). All (λ line. 0 < length line) lines) (sym c.in_ok-lines.ensures.lines)
    (certificate_some c.args.task.now c.args.cert.now.boxes c.args.cert.now.states)
