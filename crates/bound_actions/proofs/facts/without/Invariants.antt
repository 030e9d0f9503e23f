use Rattle.std.proofs.Common.{◌≡◌, ◌++◌, drop}
use Rattle.std.specs.Prelude.{filter, not}
use Rattle.ground_meaning.specs.Actions.{is_listed}
use Rattle.bound_actions.proofs.facts.without.Given as goal

abbrev pub invariant-each : goal.invariant-each
invariant-each l = l.left.items ++ filter (λ f. not (is_listed f l.taken)) (drop l.code-index l.codes) ≡ filter (λ f. not (is_listed f l.taken)) l.codes
