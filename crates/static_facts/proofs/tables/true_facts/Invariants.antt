use Rattle.std.proofs.Common.{◌≡◌, ◌||◌, ℕ, drop}
use Rattle.std.specs.Prelude.{nat_eq}
use Rattle.indexmap.specs.IndexSet as set
use Rattle.static_facts.specs.internal.Keys.{is_coded_fact}
use Rattle.static_facts.proofs.tables.true_facts.Given as goal

abbrev pub invariant-each : goal.invariant-each
invariant-each l = (c : ℕ) → (set.contains nat_eq l.codes c || is_coded_fact l.checked c (drop l.atom-index l.checked.problem.facts)) ≡ is_coded_fact l.checked c l.checked.problem.facts
