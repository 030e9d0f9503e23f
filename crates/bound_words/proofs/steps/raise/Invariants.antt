use Rattle.bound_words.proofs.Picks.{Raised}
use Rattle.bound_words.proofs.steps.raise.Given as goal

abbrev pub ghosts-fetch_max : goal.ghosts-fetch_max
ghosts-fetch_max g a = record { then = Raised (g.S.System.terms a.self.now.key.system.value) a.self.now.key.start.value a.self.now.key.seats }

abbrev pub ghosts-fetch_min : goal.ghosts-fetch_min
ghosts-fetch_min g a = record { then = Raised (g.S.System.terms a.self.now.key.system.value) a.self.now.key.start.value a.self.now.key.seats }

abbrev pub ghosts-fetch_or : goal.ghosts-fetch_or
ghosts-fetch_or g a = record { then = Raised (g.S.System.terms a.self.now.key.system.value) a.self.now.key.start.value a.self.now.key.seats }
