use Rattle.grounder.proofs.Decoding.{index_stands}
use Rattle.grounder.proofs.atoms.fact_texts.Goals as goal

pub fact_text-requires : goal.fact_text-requires
fact_text-requires c = record { of_fact = c.requires.of_facts _ (index_stands c.args.codes.now c.each.code-index c.each-test.true) }
