use Rattle.std.proofs.Common.{subst}
use Rattle.ground_task.specs.Tasks.{TaskValue, IsInitialState}
use Rattle.ground_task.proofs.StateNumbers.{first_kept}
use Rattle.ground_task.proofs.task.Task.first.Goals as goal

pub returns-clause-initial : goal.returns-clause-initial
returns-clause-initial c =
    subst (λ (t : TaskValue). IsInitialState t c.self.inside.first) c.self.view_is (first_kept c.self.inside.raw c.self.inside.places c.self.inside.first c.self.invariant)
