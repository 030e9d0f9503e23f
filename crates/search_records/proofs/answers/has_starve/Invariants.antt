use Rattle.std.proofs.Common.{◌≡◌, drop}
use Rattle.search_runs.specs.Runs.{has_starve}
use Rattle.search_records.proofs.answers.has_starve.Given as goal

abbrev pub invariant-each : goal.invariant-each
invariant-each l = has_starve (drop l.event-index l.journal) ≡ has_starve l.journal
