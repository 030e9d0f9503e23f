use Rattle.bound_words.specs.Protocol.{joined, spent}
use Rattle.bound_words.proofs.steps.take_in.Given as goal

abbrev pub ghosts-join_seat : goal.ghosts-join_seat
ghosts-join_seat g a = record { both = joined (g.S.System.terms a.self.now.key.system.value); spent = spent }
