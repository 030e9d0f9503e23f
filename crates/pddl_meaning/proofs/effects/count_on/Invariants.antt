use Rattle.std.proofs.Common.{◌≡◌, ◌+◌, ◌≤◌, drop, length}
use Rattle.pddl_meaning.specs.internal.Computed.{evaluations_on}
use Rattle.pddl_meaning.proofs.effects.count_on.Given as goal

abbrev pub invariant-each : goal.invariant-each
invariant-each l = (l.count + length (evaluations_on l.fluent (drop l.evaluation-index l.evaluations)) ≡ length (evaluations_on l.fluent l.evaluations)) × (l.count ≤ l.evaluation-index)
