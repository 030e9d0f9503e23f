use Rattle.pddl_types.proofs.FaultlessWhole.{faultless}
use Rattle.pddl_types.proofs.laws.faultless_pairs_are_well_formed.Goals as goal

pub returns : goal.returns
returns c = faultless
