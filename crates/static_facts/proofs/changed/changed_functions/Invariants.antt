use Rattle.std.proofs.Common.{◌≡◌, ◌++◌, drop, map}
use Rattle.pddl_types.specs.Pairs.{changed_heads}
use Rattle.static_facts.proofs.changed.changed_functions.Given as goal

abbrev pub invariant-each : goal.invariant-each
invariant-each l = map (λ n. n.now) l.names.items ++ changed_heads (drop l.schema-index l.schemas) ≡ changed_heads l.schemas
