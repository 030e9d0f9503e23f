use Rattle.std.proofs.Common.{◌≡◌, drop}
use Rattle.std.specs.Prelude.{nat_eq}
use Rattle.indexmap.specs.IndexSet.{insert_all}
use Rattle.numbering.proofs.spread.add_all.Given as goal

abbrev pub invariant-each : goal.invariant-each
invariant-each l = insert_all nat_eq l.reached.keys (drop l.code-index l.codes) ≡ insert_all nat_eq l.initial.reached.keys l.codes
