use Rattle.cert_reader.proofs.InCuts.{cut_round}
use Rattle.cert_reader.proofs.cuts.cut.Goals as goal

pub returns-in-Some : goal.returns-in-Some
returns-in-Some c =
    cut_round c.args.byte c.args.text.now c.split_at-halves.result.0.now c.split_at-halves.result.1.now c.split_at-tail.result.1.now c.in-Some.at
    c.split_at-halves.ensures.front c.split_at-halves.ensures.back c.split_at-tail.ensures.back c.in-Some.ensures
