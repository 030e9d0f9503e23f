use Rattle.std.proofs.Common.{◌≡◌, ◌++◌, drop}
use Rattle.std.specs.Prelude.{option_map}
use Rattle.pddl_meaning.specs.Effects.{numeric_effects}
use Rattle.pddl_meaning.specs.internal.Computed.{evaluations_of}
use Rattle.pddl_meaning.proofs.effects.evaluations_of.Given as goal

abbrev pub invariant-each : goal.invariant-each
invariant-each l =
    option_map (λ rest. l.evaluations ++ rest) (evaluations_of l.binding.params.now l.binding.args.now l.binding.world.now (numeric_effects l.binding.params.now l.binding.args.now (drop l.effect-index l.effects)))
    ≡ evaluations_of l.binding.params.now l.binding.args.now l.binding.world.now (numeric_effects l.binding.params.now l.binding.args.now l.effects)
