use Rattle.std.proofs.Common.{take}
use Rattle.std.specs.List.{list_any}
use Rattle.relax_plain.specs.Reads.{compares, IsNoted}
use Rattle.relax_plain.proofs.readers.+comparisons.Given as goal

abbrev pub invariant-note_all_compared-each : goal.invariant-note_all_compared-each
invariant-note_all_compared-each l = IsNoted l.number (λ x. list_any (compares x) (take l.cond-index l.conds)) l.initial.lists.items l.lists.items
