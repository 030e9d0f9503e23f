use Rattle.std.proofs.Common.{◌≡◌, [], drop, map}
use Rattle.name_table.specs.Tables.{numbered_from}
use Rattle.name_table.proofs.table.NameTable.numbered.Given as goal

abbrev pub invariant-each : goal.invariant-each
invariant-each l = numbered_from l.table l.number (map (λ n. n.now) (drop l.number l.names)) ≡ numbered_from [] 0 (map (λ n. n.now) l.names)
