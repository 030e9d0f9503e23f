-- What folded conditions mean.
use Rattle.coded_actions.specs.Coded.{condition_of}
use Rattle.ground_meaning.specs.Conditions.{Settled}
use Rattle.ground_meaning.specs.Conditions.Settled.{decided, remaining}
use Rattle.folded_terms.specs.declared.settled.CodedSettled.{CodedSettled}
use Rattle.folded_terms.specs.declared.settled.CodedSettled.TheVariants.{Decided, Remaining}

abbrev pub settled_of : CodedSettled → Settled
settled_of (Decided truth) = decided truth
settled_of (Remaining c) = remaining (condition_of c)
