use Rattle.cert_text.proofs.OneLine.{one_line}
use Rattle.cert_text.proofs.laws.lines.Goals as goal

pub returns-clause-same : goal.returns-clause-same
returns-clause-same c = λ t b d h k. one_line t.raw b d h k

pub returns-clause-least : goal.returns-clause-least
returns-clause-least c = λ t s b d h k.
    one_line t.raw b d (h.least d k.a_box k.contains k.closed) (k.least b h.a_box h.contains h.closed)
