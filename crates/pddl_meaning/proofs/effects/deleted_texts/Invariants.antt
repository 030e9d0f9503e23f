use Rattle.std.proofs.Common.{◌≡◌, ◌++◌, drop}
use Rattle.std.specs.Prelude.{flat_map}
use Rattle.pddl_meaning.specs.Effects.{deleted_by}
use Rattle.pddl_meaning.proofs.effects.deleted_texts.Given as goal

abbrev pub invariant-each : goal.invariant-each
invariant-each l = l.texts ++ flat_map (deleted_by l.binding.params.now l.binding.args.now) (drop l.effect-index l.effects) ≡ flat_map (deleted_by l.binding.params.now l.binding.args.now) l.effects
