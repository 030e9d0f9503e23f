use Rattle.std.proofs.Common.{[], ◌∷◌, ◌++◌, option_map, refl, sym, ap, ◌∙◌}
use Rattle.word_rows.specs.Views.{line}
use Rattle.thread_tests.proofs.rows.write_second.Goals as goal

pub store-requires-clause-writes : goal.store-requires-clause-writes
store-requires-clause-writes c = (c.args.word ∷ [], c.requires.writes, refl)

pub open-requires-clause-whole : goal.open-requires-clause-whole
open-requires-clause-whole c = let word = c.args.word in (word ∷ word ∷ [], ap (λ v. v.writing) c.store.ensures.view ∙ ap (option_map (λ l. line l.row (l.words ++ word ∷ []))) c.requires.writes, sym c.requires.width, refl)
