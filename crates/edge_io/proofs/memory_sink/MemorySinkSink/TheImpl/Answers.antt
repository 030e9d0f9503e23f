use Rattle.std.proofs.Common.{arith}
use Rattle.std.proofs.lemmas.Grind.{common_steps}
use Rattle.edge_io.proofs.memory_sink.MemorySinkSink.TheImpl.Goals as goal

pub write-tells : goal.write-tells
write-tells c = record {
  some = grind (arith, common_steps);
  bound = grind (arith, common_steps);
  bytes = grind (arith, common_steps);
  cause = grind (arith, common_steps);
}
