use Rattle.std.proofs.Common.{◌≡◌, ◌-◌}
use Rattle.search_runs.specs.Runs.{count_takes}
use Rattle.search_turns.specs.Turns.{SameTerms}
use Rattle.search_alone.specs.Rounds.{IsFed}
use Rattle.search_alone.proofs.alone.run.Given as goal

abbrev pub invariant-rounds : goal.invariant-rounds
invariant-rounds g l =
    record {
      fed : IsFed l.search;
      terms : SameTerms l.initial.search l.search;
      task : g.V.Viewer.of l.viewer ≡ l.search.table.task;
    }

abbrev pub decreases-rounds : goal.decreases-rounds
decreases-rounds g l = l.search.limit - count_takes l.search.journal
