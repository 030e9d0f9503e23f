use Rattle.std.proofs.Common.{take}
use Rattle.std.specs.List.{list_any}
use Rattle.relax_plain.specs.Reads.{is_used, IsNoted}
use Rattle.relax_plain.proofs.readers.note_changes.Given as goal

abbrev pub invariant-each : goal.invariant-each
invariant-each l = IsNoted l.number (λ x. list_any (is_used x) (take l.effect-index l.effects)) l.initial.lists.items l.lists.items
