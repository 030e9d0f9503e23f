use Rattle.std.proofs.Common.{◌≡◌, ◌+◌, drop}
use Rattle.pddl_meaning.specs.Worlds.{initial_world}
use Rattle.plan_validator.proofs.Onward.{verdict_from}
use Rattle.plan_validator.proofs.execution.validate.Given as goal

abbrev pub invariant-loop-step : goal.invariant-loop-step
invariant-loop-step l = record {
  whole : verdict_from l.checked l.world (l.number + 1) (drop l.step-index l.plan) ≡ verdict_from l.checked (initial_world l.checked) 1 l.plan;
  counted : l.number ≡ l.step-index;
}
