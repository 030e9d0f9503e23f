use Rattle.cert_reader.proofs.InCuts.{found_at}
use Rattle.cert_reader.proofs.cuts.place_of.Goals as goal

pub returns : goal.returns
returns c = found_at c.args.byte c.args.text.now c.memchr.result c.memchr.ensures
