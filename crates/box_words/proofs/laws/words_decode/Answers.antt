use Rattle.box_words.proofs.Decoding.{count, fact_decodes, fluent_decodes, whole}
use Rattle.box_words.proofs.laws.words_decode.Goals as goal

pub returns-clause-count : goal.returns-clause-count
returns-clause-count c = count

pub returns-clause-facts : goal.returns-clause-facts
returns-clause-facts c = fact_decodes

pub returns-clause-fluents : goal.returns-clause-fluents
returns-clause-fluents c = fluent_decodes

pub returns-clause-whole : goal.returns-clause-whole
returns-clause-whole c = whole
