use Rattle.std.proofs.Common.{◌≡◌, drop}
use Rattle.ground_task.specs.Steps.{change_of}
use Rattle.simple_atoms.specs.Values.{growth, growth_by}
use Rattle.simple_atoms.proofs.atoms.growth.Given as goal

abbrev pub invariant-each : goal.invariant-each
invariant-each l = growth_by (change_of l.fluent (drop l.effect-index l.action.nums)) ≡ growth l.action l.fluent
