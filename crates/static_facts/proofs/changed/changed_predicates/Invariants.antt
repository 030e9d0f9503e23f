use Rattle.std.proofs.Common.{◌≡◌, ◌++◌, drop, map}
use Rattle.static_facts.specs.Fixed.{changed_predicate_heads}
use Rattle.static_facts.proofs.changed.changed_predicates.Given as goal

abbrev pub invariant-each : goal.invariant-each
invariant-each l = map (λ n. n.now) l.names.items ++ changed_predicate_heads (drop l.schema-index l.schemas) ≡ changed_predicate_heads l.schemas
