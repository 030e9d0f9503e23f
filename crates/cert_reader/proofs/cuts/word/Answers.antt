use Rattle.std.proofs.Common.{length, refl}
use Rattle.cert_reader.proofs.InCuts.{word_cut, word_whole}
use Rattle.cert_reader.proofs.cuts.word.Goals as goal

pub returns-in-Some : goal.returns-in-Some
returns-in-Some c = word_cut c.args.text.now c.split_at.result.0.now c.split_at.result.1.now c.in-Some.at c.split_at.ensures.front c.split_at.ensures.back c.in-Some.ensures

pub returns-in-None : goal.returns-in-None
returns-in-None c = word_whole c.args.text.now c.split_at-in-None.result.0.now c.split_at-in-None.result.1.now (length c.args.text.now) refl c.split_at-in-None.ensures.front c.split_at-in-None.ensures.back c.in-None.ensures
