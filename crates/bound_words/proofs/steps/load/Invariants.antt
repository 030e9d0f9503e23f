use Rattle.bound_words.proofs.Picks.{Loaded}
use Rattle.bound_words.proofs.steps.load.Given as goal

abbrev pub ghosts-load : goal.ghosts-load
ghosts-load g a = record { then = Loaded (g.S.System.terms a.self.now.key.system.value) a.self.now.key.start.value a.self.now.key.seats }
