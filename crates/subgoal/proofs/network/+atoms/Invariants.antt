use Rattle.std.proofs.Common.{take}
use Rattle.std.specs.List.{flat_map}
use Rattle.subgoal.specs.Network.{atoms_of, Adds}
use Rattle.subgoal.proofs.network.+atoms.Given as goal

abbrev pub invariant-push_conditions-each : goal.invariant-push_conditions-each
invariant-push_conditions-each l = Adds l.task l.fn.network l.network (flat_map atoms_of (take l.cond-index l.conds))
