use Rattle.std.proofs.Common.{◌≡◌, [], replicate}
use Rattle.relax_plain.proofs.readers.empty_lists.Given as goal

abbrev pub invariant-each : goal.invariant-each
invariant-each l = l.lists.items ≡ replicate l._number []
