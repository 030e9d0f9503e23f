use Rattle.std.proofs.Common.{arith}
use Rattle.std.proofs.lemmas.Grind.{common_steps}
use Rattle.edge_io.proofs.memory_files.MemoryFilesFiles.TheImpl.Goals as goal

pub begin-tells : goal.begin-tells
begin-tells c = record {
  same_folder = grind (arith, common_steps);
  next_begun = grind (arith, common_steps);
  new_mark = grind (arith, common_steps);
  later = grind (arith, common_steps);
  kept = grind (arith, common_steps);
  ready = grind (arith, common_steps);
  found = grind (arith, common_steps);
  whole = grind (arith, common_steps);
  failed = grind (arith, common_steps);
  not_ready = grind (arith, common_steps);
}

pub read-tells : goal.read-tells
read-tells c = record {
  bound = grind (arith, common_steps);
  bytes = grind (arith, common_steps);
  cause = grind (arith, common_steps);
  ready = grind (arith, common_steps);
  same_folder = grind (arith, common_steps);
  same_begun = grind (arith, common_steps);
  same_mark = grind (arith, common_steps);
}
