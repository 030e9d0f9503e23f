use Rattle.std.proofs.Common.{[], ◌∷◌, ◌++◌}
use Rattle.ground_task.specs.Steps.{StepLeads}
use Rattle.dead_ends.specs.Reachable.{IsLive, initial_state}
use Rattle.dead_ends.proofs.NoPlan.{walk_on}
use Rattle.dead_ends.proofs.laws.live_steps_reach.Goals as goal

pub returns : goal.returns
returns c = λ t s next a reached leads live.
    (reached.0 ++ a ∷ [], walk_on (IsLive t) (StepLeads t) reached.0 (initial_state t) s next a reached.1 leads live)
