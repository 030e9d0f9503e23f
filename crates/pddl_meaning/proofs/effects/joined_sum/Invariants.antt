use Rattle.std.proofs.Common.{◌≡◌, drop}
use Rattle.pddl_meaning.specs.internal.Computed.{evaluations_on, with_parts}
use Rattle.pddl_meaning.proofs.effects.joined_sum.Given as goal

abbrev pub invariant-each : goal.invariant-each
invariant-each l = with_parts l.sum (evaluations_on l.fluent (drop l.evaluation-index l.evaluations)) ≡ with_parts l.initial.sum (evaluations_on l.fluent l.evaluations)
