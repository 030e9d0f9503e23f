use Rattle.std.proofs.Common.{◌≡◌, ℕ, drop, map}
use Rattle.std.specs.Prelude.{nat_eq}
use Rattle.indexmap.specs.IndexSet.{insert_all}
use Rattle.numbering.proofs.spread.add_ends.Given as goal

abbrev pub invariant-each : goal.invariant-each
invariant-each l =
    insert_all nat_eq l.reached.keys (map (λ (e : ℕ × ℕ). e.1) (drop l.edge-index l.edges))
    ≡ insert_all nat_eq l.initial.reached.keys (map (λ (e : ℕ × ℕ). e.1) l.edges)
