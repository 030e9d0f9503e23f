use Rattle.bound_words.proofs.Picks.{Marked}
use Rattle.bound_words.proofs.steps.load_done.Given as goal

abbrev pub ghosts-load : goal.ghosts-load
ghosts-load g a = record { then = Marked (g.S.System.terms a.self.now.key.system.value) a.self.now.key.start.value a.self.now.key.seats }
