use Rattle.std.proofs.Common.{◌≡◌, ◌++◌, drop, map}
use Rattle.std.specs.Prelude.{flat_map}
use Rattle.static_facts.specs.Fixed.{changed_predicate}
use Rattle.static_facts.proofs.changed.push_predicates.Given as goal

abbrev pub invariant-each : goal.invariant-each
invariant-each l = map (λ n. n.now) l.names.items ++ flat_map changed_predicate (drop l.effect-index l.effects) ≡ map (λ n. n.now) l.initial.names.items ++ flat_map changed_predicate l.effects
