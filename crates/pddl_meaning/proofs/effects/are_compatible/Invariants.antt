use Rattle.std.proofs.Common.{◌≡◌, ◌||◌, drop, length}
use Rattle.std.specs.Prelude.{nat_le}
use Rattle.std.specs.List.{list_all}
use Rattle.pddl_meaning.specs.Effects.{is_joined}
use Rattle.pddl_meaning.specs.internal.Computed.{evaluations_on, are_compatible_evaluations}
use Rattle.pddl_meaning.proofs.effects.are_compatible.Given as goal

abbrev pub invariant-each : goal.invariant-each
invariant-each l =
    list_all (λ a. is_joined a.how || nat_le (length (evaluations_on a.fluent l.evaluations)) 1) (drop l.evaluation-index l.evaluations) ≡ are_compatible_evaluations l.evaluations
