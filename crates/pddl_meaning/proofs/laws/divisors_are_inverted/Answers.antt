use Rattle.pddl_meaning.proofs.Inverses.{inverse_sound}
use Rattle.pddl_meaning.proofs.laws.divisors_are_inverted.Goals as goal

pub returns-clause-found : goal.returns-clause-found
returns-clause-found c = inverse_sound
