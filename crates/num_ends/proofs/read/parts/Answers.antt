use Rattle.std.proofs.Common.{arith}
use Rattle.std.proofs.lemmas.Bool.Decides.{nat_tests}
use Rattle.num_ends.proofs.Numerals.{no_tail, no_digit}
use Rattle.num_ends.proofs.read.parts.Goals as goal

pub returns-then-is_empty-2 : goal.returns-then-is_empty-2
returns-then-is_empty-2 c =
    no_digit c.args.text.now c.cut-negative.result.0 c.cut-negative.result.1.now c.cut-negative.result.2.now c.in-Some.fraction.now
    c.cut-negative.ensures c.in-Some.ensures (grind (arith, nat_tests)) (grind (arith, nat_tests))

pub returns-in-None : goal.returns-in-None
returns-in-None c =
    no_tail c.args.text.now c.cut-negative.result.0 c.cut-negative.result.1.now c.cut-negative.result.2.now c.cut-negative.ensures c.in-None.ensures
