use Rattle.std.proofs.Common.{take}
use Rattle.relax_plain.specs.Marks.{MarksMore}
use Rattle.relax_plain.proofs.marks.Marks.set_all.Given as goal

abbrev pub invariant-each : goal.invariant-each
invariant-each l = MarksMore (take l.number-index l.numbers) l.fn.self l.self
