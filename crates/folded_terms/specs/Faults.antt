-- Faults of folding as the code gives them.
use Rattle.std.specs.Prelude.{◌≡◌, Result, Err}
use Rattle.ground_meaning.specs.Expressions.{FoldFault}
use Rattle.ground_meaning.specs.Expressions.FoldFault.{Divide, OutOfRange}
use Rattle.folded_terms.specs.declared.faults.FoldError.{FoldError}
use Rattle.folded_terms.specs.declared.faults.FoldError.TheVariants as error

-- the fault of a fold; where memory is wanting nothing is said
abbrev pub IsFoldFault : {A : Type 0} → Result A FoldFault → FoldError → Type 0
IsFoldFault answer (error.Divide place) = answer ≡ Err (Divide place)
IsFoldFault answer error.OutOfRange = answer ≡ Err OutOfRange
IsFoldFault answer error.NoMemory = Unit {0}
