use Rattle.word_rows.proofs.Picks.{Opened}
use Rattle.word_rows.proofs.rows.WordRows.open.Given as goal

abbrev pub ghosts-store : goal.ghosts-store
ghosts-store g a = record { then = Opened }
