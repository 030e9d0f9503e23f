-- What a check answers.
use Rattle.std.specs.Prelude.{◌≡◌, Some}
use Rattle.pddl_types.specs.declared.faults.CheckFault.{CheckFault}
use Rattle.pddl_types.specs.declared.faults.CheckFault.TheVariants as answer
use Rattle.pddl_types.specs.declared.pairs.Pair.{Pair}
use Rattle.pddl_types.specs.Faults.{check_fault, earliest_fault}
use Rattle.pddl_types.specs.Checks.{faults_of}

-- a fault is the first of the pair's; want of memory is none
abbrev pub IsFirstFault : Pair → CheckFault → Type 0
IsFirstFault p (answer.At side kind name) = earliest_fault (faults_of p) ≡ Some (check_fault side kind name)
IsFirstFault p answer.NoMemory = ⊥
