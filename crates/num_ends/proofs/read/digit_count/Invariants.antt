use Rattle.std.proofs.Common.{All, take}
use Rattle.std.specs.Char.{IsAsciiDigit}
use Rattle.num_ends.proofs.read.digit_count.Given as goal

abbrev pub invariant-loop-i : goal.invariant-loop-i
invariant-loop-i l = All IsAsciiDigit (take l.i l.text)
