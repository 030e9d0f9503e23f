use Rattle.std.proofs.Common.{◌≡◌, length}
use Rattle.ground_task.specs.Tasks.{IsStateOf}
use Rattle.search_records.specs.Spaces.{LeastDead}
use Rattle.search_core.specs.Views.{AreRightOutcomes}
use Rattle.search_core.proofs.search.Search.outcomes_of.Given as goal

abbrev pub invariant-each : goal.invariant-each
invariant-each g l =
    record {
      as_many : length l.outcomes ≡ l.action;
      right : AreRightOutcomes LeastDead l.self.table l.state 0 l.outcomes;
      room : IsStateOf l.self.table.task l.next;
      task : g.V.Viewer.of l.viewer ≡ l.self.table.task;
    }
