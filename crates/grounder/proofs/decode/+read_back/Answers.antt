use Rattle.std.proofs.Common.{◌<◌, arith}
use Rattle.grounder.proofs.Digits.{fits_next}
use Rattle.grounder.proofs.decode.+read_back.Goals as goal

pub read_back-requires : goal.read_back-requires
read_back-requires t c =
    let some : 0 < c.args.digits = omega (arith, c.if-digits-eq0.false) in
    (omega (arith, some, c.decreases), fits_next c.args.digits c.args.code some c.requires.fits)
