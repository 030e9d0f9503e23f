use Rattle.std.proofs.Common.{ℕ, ◌<◌}
use Rattle.ground_task.specs.States.{StateValue}
use Rattle.ground_task.specs.Tasks.{IsStateOf}
use Rattle.search_runs.specs.Spaces.{IsAt}
use Rattle.cert_check.specs.Checks.{IsStateGood}
use Rattle.cert_check.proofs.lines.first_against_states.Given as goal

abbrev pub invariant-each : goal.invariant-each
invariant-each l = record {
  good : (k : ℕ) (s : StateValue) → k < l.number → IsAt l.index.states k s → IsStateGood l.task l.index.boxes l.index.states s;
  room : IsStateOf l.task l.next;
}
