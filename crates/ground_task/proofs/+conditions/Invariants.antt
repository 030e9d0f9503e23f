use Rattle.std.proofs.Common.{◌≡◌, take}
use Rattle.ground_task.proofs.+conditions.Given as goal

abbrev pub invariant-copies::members-each : goal.invariant-copies::members-each
invariant-copies::members-each l = l.copies.items ≡ take l.cond-index l.conds
