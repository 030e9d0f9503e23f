-- What is found where it isn't too high.
use Rattle.std.specs.Prelude.{Option, Some, None}
use Rattle.pddl_expressions.specs.declared.found.Found.{Found}
use Rattle.pddl_expressions.specs.declared.found.Found.TheVariants.{Misfit, TooHigh, Fine}

abbrev pub fine_of : {A : Type 0} → Found A → Option A
fine_of Misfit = None
fine_of TooHigh = None
fine_of (Fine x n) = Some x
