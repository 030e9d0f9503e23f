-- What is known of folded expressions and conditions without their trees.
use Rattle.std.specs.Prelude.{Bool, Option, Some, None, Result}
use Rattle.num_ends.specs.Decimal.{Decimal}
use Rattle.ground_meaning.specs.Results.{mapped}
use Rattle.ground_meaning.specs.Expressions.{FoldFault, Operand}
use Rattle.ground_meaning.specs.Expressions.FoldFault.{Divide, OutOfRange}
use Rattle.ground_meaning.specs.Expressions.Operand.{constant, computed}
use Rattle.ground_meaning.specs.Conditions.{Settled}
use Rattle.ground_meaning.specs.Conditions.Settled.{decided, remaining}
use Rattle.term_verdicts.specs.declared.faults.TermFault.{TermFault}
use Rattle.term_verdicts.specs.declared.faults.TermFault.TheVariants as fault

-- a constant's value
abbrev pub constant_of : Operand → Option Decimal
constant_of (constant c) = Some c
constant_of (computed g) = None

-- the truth of what is decided
abbrev pub truth_of : Settled → Option Bool
truth_of (decided truth) = Some truth
truth_of (remaining g) = None

-- the fault of an answer alone
abbrev pub fault_alone : {A : Type 0} → Result A FoldFault → Result (Unit {0}) FoldFault
fault_alone answer = mapped (λ a. tt) answer

abbrev pub fold_fault : TermFault → FoldFault
fold_fault (fault.Divide place) = Divide place
fold_fault fault.OutOfRange = OutOfRange
