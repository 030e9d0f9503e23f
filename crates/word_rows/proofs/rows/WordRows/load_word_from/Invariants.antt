use Rattle.word_rows.proofs.Picks.{Read}
use Rattle.word_rows.proofs.rows.WordRows.load_word_from.Given as goal

abbrev pub ghosts-load : goal.ghosts-load
ghosts-load g a = record { then = Read a.self.now.key.width }
