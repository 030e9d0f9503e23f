use Rattle.std.proofs.Common.{[], ◌∷◌, ◌++◌, option_map, refl, ap, ◌∙◌}
use Rattle.word_rows.specs.Views.{line}
use Rattle.thread_tests.proofs.rows.write_first.Goals as goal

pub returns-clause-writes : goal.returns-clause-writes
returns-clause-writes c = ap (λ v. v.writing) c.store.ensures.view ∙ ap (option_map (λ l. line l.row (l.words ++ c.args.word ∷ []))) c.requires.writes
