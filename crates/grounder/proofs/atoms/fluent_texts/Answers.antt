use Rattle.grounder.proofs.Decoding.{index_stands}
use Rattle.grounder.proofs.atoms.fluent_texts.Goals as goal

pub fluent_text-requires : goal.fluent_text-requires
fluent_text-requires c = record { of_fluent = c.requires.of_fluents _ (index_stands c.args.codes.now c.each.code-index c.each-test.true) }
