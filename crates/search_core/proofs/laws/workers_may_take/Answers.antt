use Rattle.search_core.proofs.Events.{worker_may_take}
use Rattle.search_core.proofs.laws.workers_may_take.Goals as goal

pub returns : goal.returns
returns c = worker_may_take
