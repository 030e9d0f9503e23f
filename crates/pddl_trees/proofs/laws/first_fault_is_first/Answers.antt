use Rattle.pddl_trees.proofs.FirstFault.{first_is_first, none_first}
use Rattle.pddl_trees.proofs.laws.first_fault_is_first.Goals as goal

pub returns-clause-first : goal.returns-clause-first
returns-clause-first c = first_is_first

pub returns-clause-none : goal.returns-clause-none
returns-clause-none c = none_first
