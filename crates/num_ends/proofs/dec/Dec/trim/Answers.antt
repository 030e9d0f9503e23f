use Rattle.num_ends.proofs.Zeros.{trimmed_by_sign}
use Rattle.num_ends.proofs.dec.Dec.trim.Goals as goal

pub returns : goal.returns
returns c =
    let e = rw (c.places.ensures.value, c.magnitude.ensures.value) at c.drop_zeros-magnitude.ensures.value in
    let t = trimmed_by_sign c.args.self c.drop_zeros-magnitude.result.0 c.drop_zeros-magnitude.result.1 e in
    cc
