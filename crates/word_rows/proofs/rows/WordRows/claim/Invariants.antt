use Rattle.word_rows.proofs.Picks.{Claimed}
use Rattle.word_rows.proofs.rows.WordRows.claim.Given as goal

abbrev pub ghosts-fetch_add : goal.ghosts-fetch_add
ghosts-fetch_add g a = record { then = Claimed }
