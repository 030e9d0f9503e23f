use Rattle.std.proofs.Common.{◌≡◌, ◌<◌}
use Rattle.search_tests.proofs.searches.run.Given as goal

abbrev pub invariant-rounds : goal.invariant-rounds
invariant-rounds g l =
    record {
      worker : 0 < l.search.workers;
      of : g.V.Viewer.of l.viewer ≡ l.search.table.task;
    }
