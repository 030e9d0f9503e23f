use Rattle.std.proofs.Common.{append_assoc}
use Rattle.task_gen.specs.Counters.{link_text}
use Rattle.task_gen.proofs.Counted.{of_counters-written}
use Rattle.task_gen.proofs.push_links.Goals as goal

pub counters-preserved : goal.counters-preserved
counters-preserved c = of_counters-written link_text c.counters.i-counter _ _ _ _ c.counters.invariant c.in_ok-write.ensures.bytes (simp append_assoc)
