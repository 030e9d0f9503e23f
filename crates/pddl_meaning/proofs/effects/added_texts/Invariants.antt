use Rattle.std.proofs.Common.{◌≡◌, ◌++◌, drop}
use Rattle.std.specs.Prelude.{flat_map}
use Rattle.pddl_meaning.specs.Effects.{added_by}
use Rattle.pddl_meaning.proofs.effects.added_texts.Given as goal

abbrev pub invariant-each : goal.invariant-each
invariant-each l = l.texts ++ flat_map (added_by l.binding.params.now l.binding.args.now) (drop l.effect-index l.effects) ≡ flat_map (added_by l.binding.params.now l.binding.args.now) l.effects
