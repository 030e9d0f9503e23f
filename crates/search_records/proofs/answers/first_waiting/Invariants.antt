use Rattle.std.proofs.Common.{◌≡◌, ◌+◌, drop, option_map}
use Rattle.search_runs.specs.Answers.{first_where, is_waiting}
use Rattle.search_records.proofs.answers.first_waiting.Given as goal

abbrev pub invariant-each : goal.invariant-each
invariant-each l =
    option_map (λ k. l.index + k) (first_where is_waiting (drop l.index l.nodes)) ≡ first_where is_waiting l.nodes
