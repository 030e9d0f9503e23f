use Rattle.std.proofs.Common.{take}
use Rattle.std.specs.List.{list_any}
use Rattle.relax_plain.specs.Reads.{asks, IsNoted}
use Rattle.relax_plain.proofs.readers.+literals.Given as goal

abbrev pub invariant-note_all_asked-each : goal.invariant-note_all_asked-each
invariant-note_all_asked-each l = IsNoted l.number (λ f. list_any (asks f) (take l.cond-index l.conds)) l.initial.lists.items l.lists.items
