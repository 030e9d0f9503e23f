use Rattle.grounder.proofs.Decoding.{item_stands}
use Rattle.grounder.proofs.placing.text_of.Goals as goal

pub fluent_text-requires : goal.fluent_text-requires
fluent_text-requires c =
    let found = c.in-Some.ensures.lookup in
    record { of_fluent = c.requires.of_fluents c.in-Some.code.now (item_stands c.args.fluents.now c.args.number c.in-Some.code.now found.3.0 found.1) }
