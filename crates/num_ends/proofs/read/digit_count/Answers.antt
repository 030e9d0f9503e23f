use Rattle.std.proofs.Common.{arith}
use Rattle.std.specs.Char.{IsAsciiDigit}
use Rattle.std.proofs.lemmas.List.Elements.{All-more}
use Rattle.std.proofs.lemmas.Bool.{MatchBool-at_true}
use Rattle.num_ends.proofs.read.digit_count.Goals as goal

pub loop-i-preserved : goal.loop-i-preserved
loop-i-preserved c = All-more IsAsciiDigit c.args.text.now c.loop-i.i 0 (omega arith) c.loop-i.invariant (MatchBool-at_true _ _ c.if-not-is_ascii_digit.false c.is_ascii_digit.ensures.cases)
