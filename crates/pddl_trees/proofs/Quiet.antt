-- Where nothing is noted, nothing was noted before, and there is no fault.
use Rattle.std.proofs.Common.{◌≡◌, List, [], Option, None, sym, ◌∙◌}
use Rattle.pddl_trees.specs.declared.faults.Fault.{Fault}
use Rattle.pddl_trees.specs.Faults.{all_noted}
use Rattle.pddl_trees.proofs.Noted.{none_noted}

pub quiet_behind : (first behind : Option Fault) (faults : List Fault) → behind ≡ all_noted first faults → behind ≡ None → first ≡ None
quiet_behind first behind faults is quiet = (none_noted first faults (sym is ∙ quiet)).0

pub no_faults : (first behind : Option Fault) (faults : List Fault) → behind ≡ all_noted first faults → behind ≡ None → faults ≡ []
no_faults first behind faults is quiet = (none_noted first faults (sym is ∙ quiet)).1
