use Rattle.std.proofs.Common.{refl}
use Rattle.task_gen.specs.Counters.{object_text}
use Rattle.task_gen.proofs.Counted.{of_counters-written}
use Rattle.task_gen.proofs.push_objects.Goals as goal

pub counters-preserved : goal.counters-preserved
counters-preserved c = of_counters-written object_text c.counters.i-counter _ _ _ _ c.counters.invariant c.in_ok-write.ensures.bytes refl
