use Rattle.cert_reader.proofs.InCuts.{not_word}
use Rattle.cert_reader.proofs.InKinds.{no_may}
use Rattle.cert_reader.proofs.values.may_of.Goals as goal

pub returns : goal.returns
returns c =
    no_may c.args.said.now (not_word c.is_word.result _ c.if-is_word.false c.is_word.ensures.1)
    (not_word c.is_word-2.result _ c.if-is_word-2.false c.is_word-2.ensures.1) (not_word c.is_word-3.result _ c.if-is_word-3.false c.is_word-3.ensures.1)
