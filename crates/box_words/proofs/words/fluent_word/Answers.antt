use Rattle.std.proofs.Common.{◌∙◌}
use Rattle.box_words.proofs.Decoding.{eighth_from}
use Rattle.box_words.proofs.words.fluent_word.Goals as goal

pub returns-clause-word : goal.returns-clause-word
returns-clause-word c = c.interval_word.ensures.word ∙ eighth_from c.args.fluents.now c.args.place c.index-fluents-place.result c.requires.place c.index-fluents-place.is
