use Rattle.bound_words.proofs.Picks.{Looked}
use Rattle.bound_words.proofs.steps.look.Given as goal

abbrev pub ghosts-load : goal.ghosts-load
ghosts-load g a = record { then = Looked (g.S.System.terms a.self.now.key.system.value) a.self.now.key.start.value a.self.now.key.seats }
