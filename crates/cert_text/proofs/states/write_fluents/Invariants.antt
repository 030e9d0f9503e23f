use Rattle.std.proofs.Common.{◌≡◌, ◌++◌, take}
use Rattle.cert_text.specs.Lines.{decimals_of, state_fluents}
use Rattle.cert_text.proofs.states.write_fluents.Given as goal

abbrev pub invariant-each : goal.invariant-each
invariant-each l =
    l.out ≡ l.fn.out ++ state_fluents (take l.number l.task.raw.fluents) (take l.number (decimals_of l.task.places l.state.values))
