use Rattle.std.proofs.Common.{◌≡◌, ◌≤◌, ◌++◌, drop, length, map}
use Rattle.search_runs.specs.Answers.{closed_states}
use Rattle.answer_text.proofs.states.closed_states.Given as goal

abbrev pub invariant-each : goal.invariant-each
invariant-each l = record {
  found : map (λ s. s.now) l.states.items ++ closed_states (drop l.node-index l.nodes) ≡ closed_states l.nodes;
  few : length l.states.items ≤ l.node-index;
}
