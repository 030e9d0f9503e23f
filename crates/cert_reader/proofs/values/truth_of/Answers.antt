use Rattle.cert_reader.proofs.InCuts.{not_word}
use Rattle.cert_reader.proofs.InKinds.{no_truth}
use Rattle.cert_reader.proofs.values.truth_of.Goals as goal

pub returns : goal.returns
returns c =
    no_truth c.args.said.now (not_word c.is_word.result _ c.if-is_word.false c.is_word.ensures.1)
    (not_word c.is_word-2.result _ c.if-is_word-2.false c.is_word-2.ensures.1)
