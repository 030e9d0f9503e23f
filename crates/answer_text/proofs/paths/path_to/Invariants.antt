use Rattle.std.proofs.Common.{◌≡◌, ◌+◌, ◌≤◌, ◌<◌, ◌++◌, length, reverse}
use Rattle.search_runs.specs.Answers.{path_to}
use Rattle.answer_text.proofs.paths.path_to.Given as goal

abbrev pub invariant-up : goal.invariant-up
invariant-up l = record {
  known : l.at < length l.nodes;
  few : length l.path.items + l.at ≤ l.node;
  found : path_to l.nodes l.at ++ reverse l.path.items ≡ path_to l.nodes l.node;
}

abbrev pub decreases-up : goal.decreases-up
decreases-up l = l.at
