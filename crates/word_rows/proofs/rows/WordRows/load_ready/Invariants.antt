use Rattle.word_rows.proofs.Picks.{Looked}
use Rattle.word_rows.proofs.rows.WordRows.load_ready.Given as goal

abbrev pub ghosts-load : goal.ghosts-load
ghosts-load g a = record { then = Looked a.self.now.key.width (g.E.Entries.IsEntry a.self.now.key.entries.value) }
