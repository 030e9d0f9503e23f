use Rattle.std.proofs.Common.{◌≡◌, ◌++◌, drop, map}
use Rattle.pddl_types.specs.Pairs.{schema_names}
use Rattle.pddl_types.proofs.lists.schema_names.Given as goal

abbrev pub invariant-each : goal.invariant-each
invariant-each l = map (λ n. n.now) l.names.items ++ schema_names (drop l.schema-index l.schemas) ≡ schema_names l.schemas
