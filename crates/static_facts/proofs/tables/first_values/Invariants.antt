use Rattle.std.proofs.Common.{◌≡◌, ℕ, drop}
use Rattle.std.specs.Prelude.{nat_eq}
use Rattle.std.specs.Option.{option_or}
use Rattle.indexmap.specs.IndexMap as map
use Rattle.static_facts.specs.internal.Keys.{coded_value}
use Rattle.static_facts.proofs.tables.first_values.Given as goal

abbrev pub invariant-each : goal.invariant-each
invariant-each l = (c : ℕ) → option_or (map.get nat_eq l.values c) (coded_value l.checked c (drop l.entry-index l.checked.problem.values)) ≡ coded_value l.checked c l.checked.problem.values
