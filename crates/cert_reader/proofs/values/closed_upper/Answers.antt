use Rattle.std.proofs.Common.{refl}
use Rattle.cert_reader.proofs.Numbers.{no_closed_upper}
use Rattle.cert_reader.proofs.values.closed_upper.Goals as goal

pub returns-in-Some : goal.returns-in-Some
returns-in-Some c = (c.args.digits.now, refl, c.in-Some.ensures)

pub returns-in-None : goal.returns-in-None
returns-in-None c = no_closed_upper c.args.places c.args.digits.now c.in-None.ensures
