use Rattle.std.proofs.Common.{◌≡◌, ◌++◌, drop, map}
use Rattle.std.specs.Prelude.{flat_map}
use Rattle.pddl_types.specs.Pairs.{changed_function}
use Rattle.static_facts.proofs.changed.push_functions.Given as goal

abbrev pub invariant-each : goal.invariant-each
invariant-each l = map (λ n. n.now) l.names.items ++ flat_map changed_function (drop l.effect-index l.effects) ≡ map (λ n. n.now) l.initial.names.items ++ flat_map changed_function l.effects
