use Rattle.word_rows.proofs.Picks.{Pushed}
use Rattle.word_rows.proofs.rows.WordRows.store.Given as goal

abbrev pub ghosts-store : goal.ghosts-store
ghosts-store g a = record { then = Pushed }
