use Rattle.std.proofs.Common.{arith, get_or, refl}
use Rattle.subgoal.proofs.Reading.{one_read}
use Rattle.subgoal.proofs.conditions.atom_at.Goals as goal

pub returns : goal.returns
returns c =
    one_read c.args.reading.now.weights.now c.args.reading.now.numbers.now c.args.at (get_or c.args.reading.now.numbers.now c.args.at 0) 0 c.weight_at.result
    (omega (arith, c.if-at-reading.false)) refl c.weight_at.ensures
