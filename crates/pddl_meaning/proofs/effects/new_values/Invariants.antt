use Rattle.std.proofs.Common.{◌≡◌, ◌++◌, drop}
use Rattle.std.specs.Prelude.{option_map}
use Rattle.pddl_meaning.specs.internal.Computed.{new_values}
use Rattle.pddl_meaning.proofs.effects.new_values.Given as goal

abbrev pub invariant-each : goal.invariant-each
invariant-each l = option_map (λ rest. l.values ++ rest) (new_values l.evaluations (drop l.evaluation-index l.evaluations)) ≡ new_values l.evaluations l.evaluations
