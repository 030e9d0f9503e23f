use Rattle.std.proofs.Common.{◌≡◌, drop}
use Rattle.pddl_meaning.specs.internal.Computed.{evaluations_on}
use Rattle.pddl_meaning.proofs.effects.new_value.Given as goal

abbrev pub invariant-each : goal.invariant-each
invariant-each l = evaluations_on l.fluent (drop l.place l.evaluations) ≡ evaluations_on l.fluent l.evaluations
