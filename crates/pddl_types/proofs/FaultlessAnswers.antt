-- What a pair without a first fault is, and one with it isn't.
use Rattle.std.proofs.Common.{◌≡◌, Some, None}
use Rattle.pddl_types.specs.declared.faults.Fault.{Fault}
use Rattle.pddl_types.specs.declared.pairs.Pair.{Pair}
use Rattle.pddl_types.specs.Faults.{earliest_fault}
use Rattle.pddl_types.specs.Checks.{faults_of}
use Rattle.pddl_types.specs.WellFormed.{WellFormed}
use Rattle.pddl_types.proofs.FaultlessWhole.{faultless}
use Rattle.pddl_types.proofs.FirstFault.{none_first}

pub well_formed_answer : (p : Pair) → earliest_fault (faults_of p) ≡ None → WellFormed p
well_formed_answer p h = (faultless p).0 ((none_first (faults_of p)).0 h)

pub refused_answer : (p : Pair) (f : Fault) → earliest_fault (faults_of p) ≡ Some f → WellFormed p → ⊥
refused_answer p f h w =
    let none = (none_first (faults_of p)).1 ((faultless p).1 w) in
    cc
