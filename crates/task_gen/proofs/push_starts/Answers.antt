use Rattle.std.proofs.Common.{refl}
use Rattle.task_gen.specs.Counters.{start_text}
use Rattle.task_gen.proofs.Counted.{of_counters-written}
use Rattle.task_gen.proofs.push_starts.Goals as goal

pub counters-preserved : goal.counters-preserved
counters-preserved c = of_counters-written start_text c.counters.i-counter _ _ _ _ c.counters.invariant c.in_ok-write.ensures.bytes refl
