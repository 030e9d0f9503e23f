use Rattle.bound_words.proofs.Picks.{Ended}
use Rattle.bound_words.proofs.steps.end.Given as goal

abbrev pub ghosts-fetch_add : goal.ghosts-fetch_add
ghosts-fetch_add g a = record { then = Ended (g.S.System.terms a.self.now.key.system.value) a.self.now.key.start.value a.self.now.key.seats }
