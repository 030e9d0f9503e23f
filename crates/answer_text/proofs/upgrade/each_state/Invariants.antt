use Rattle.std.proofs.Common.{◌≡◌, ◌++◌, drop, map}
use Rattle.answer_text.proofs.upgrade.each_state.Given as goal

abbrev pub invariant-each : goal.invariant-each
invariant-each l = map (λ s. s.now) l.refs.items ++ drop l.state-index l.states ≡ l.states
