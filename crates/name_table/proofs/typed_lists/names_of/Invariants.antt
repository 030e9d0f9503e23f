use Rattle.std.proofs.Common.{◌≡◌, ◌++◌, drop, map}
use Rattle.name_table.specs.TypedLists.{names_of}
use Rattle.name_table.proofs.typed_lists.names_of.Given as goal

abbrev pub invariant-each : goal.invariant-each
invariant-each l = map (λ n. n.now) l.names.items ++ names_of (drop l.item-index l.items) ≡ names_of l.items
