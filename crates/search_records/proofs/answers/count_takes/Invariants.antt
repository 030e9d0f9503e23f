use Rattle.std.proofs.Common.{◌≡◌, ◌+◌, ◌≤◌, drop}
use Rattle.search_runs.specs.Runs.{count_takes}
use Rattle.search_records.proofs.answers.count_takes.Given as goal

abbrev pub invariant-each : goal.invariant-each
invariant-each l = record {
  counted : l.count + count_takes (drop l.event-index l.journal) ≡ count_takes l.journal;
  few : l.count ≤ l.event-index;
}
