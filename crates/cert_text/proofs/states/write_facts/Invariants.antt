use Rattle.std.proofs.Common.{◌≡◌, ◌++◌, take}
use Rattle.cert_text.specs.Lines.{state_facts}
use Rattle.cert_text.proofs.states.write_facts.Given as goal

abbrev pub invariant-each : goal.invariant-each
invariant-each l =
    l.out ≡ l.fn.out ++ state_facts (take l.number l.names) (take l.number l.state.facts)
