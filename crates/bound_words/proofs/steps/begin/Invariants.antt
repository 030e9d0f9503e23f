use Rattle.bound_words.proofs.Picks.{Begun}
use Rattle.bound_words.proofs.steps.begin.Given as goal

abbrev pub ghosts-fetch_add : goal.ghosts-fetch_add
ghosts-fetch_add g a = record { then = Begun (g.S.System.terms a.self.now.key.system.value) a.self.now.key.start.value a.self.now.key.seats }
