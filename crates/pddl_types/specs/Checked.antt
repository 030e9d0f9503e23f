-- What holds of a pair that was checked.
use Rattle.std.specs.Prelude.{◌≡◌, None}
use Rattle.pddl_terms.specs.Readable.{IsReadable}
use Rattle.pddl_types.specs.declared.pairs.Pair.{Pair}
use Rattle.pddl_types.specs.Faults.{earliest_fault}
use Rattle.pddl_types.specs.Checks.{faults_of}

-- the pair is as texts spell it, and has no fault
pub record IsChecked (p : Pair) : Type 0 where
  pub readable : IsReadable p.domain p.problem
  pub no_fault : earliest_fault (faults_of p) ≡ None
