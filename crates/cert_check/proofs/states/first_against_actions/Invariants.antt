use Rattle.std.proofs.Common.{ℕ, ◌<◌}
use Rattle.ground_task.specs.Tasks.{IsStateOf}
use Rattle.cert_check.specs.Checks.{IsActionGood}
use Rattle.cert_check.proofs.states.first_against_actions.Given as goal

abbrev pub invariant-each : goal.invariant-each
invariant-each l = record {
  good : (k : ℕ) → k < l.action → IsActionGood l.task l.index.boxes l.index.states l.state k;
  room : IsStateOf l.task l.next;
}
