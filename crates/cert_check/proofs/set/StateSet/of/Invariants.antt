use Rattle.std.proofs.Common.{◌≡◌, ◌||◌, drop}
use Rattle.std.specs.List.{list_any}
use Rattle.ground_task.specs.Orders.{is_same_state}
use Rattle.ground_task.specs.States.{StateValue}
use Rattle.cert_check.proofs.set.StateSet.of.Given as goal

abbrev pub invariant-each : goal.invariant-each
invariant-each l =
    (s : StateValue) → (list_any (is_same_state s) l.set || list_any (is_same_state s) (drop l.state-index l.states)) ≡ list_any (is_same_state s) l.states
