use Rattle.std.proofs.Common.{◌≡◌, ◌++◌, drop, map, not, is_some}
use Rattle.name_table.specs.Tables.{table_number}
use Rattle.static_facts.proofs.changed.fixed_flags.Given as goal

abbrev pub invariant-each : goal.invariant-each
invariant-each l = l.flags.items ++ map (λ s. not (is_some (table_number s.name.text l.changed))) (drop l.sig-index l.sigs) ≡ map (λ s. not (is_some (table_number s.name.text l.changed))) l.sigs
