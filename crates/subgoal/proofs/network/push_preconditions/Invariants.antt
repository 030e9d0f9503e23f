use Rattle.std.proofs.Common.{take}
use Rattle.std.specs.List.{flat_map}
use Rattle.subgoal.specs.Network.{atoms_of, Adds}
use Rattle.subgoal.proofs.network.push_preconditions.Given as goal

abbrev pub invariant-each : goal.invariant-each
invariant-each l = Adds l.task l.fn.network l.network (flat_map (λ a. atoms_of a.pre) (take l.action-index l.task.raw.actions))
