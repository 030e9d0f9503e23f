use Rattle.simple_atoms.proofs.Closing.{least_closing}
use Rattle.simple_atoms.proofs.laws.least_repetitions.Goals as goal

pub returns : goal.returns
returns c = least_closing
