use Rattle.std.proofs.Common.{◌≡◌, ◌-◌, ◌≤◌, ◌<◌, IsTrue, vec_len}
use Rattle.std.specs.Io.KnownBytes.{Consumes}
use Rattle.edge_io.proofs.whole.read_whole.Given as goal

abbrev pub invariant-pieces : goal.invariant-pieces
invariant-pieces g l = record {
  room : 0 < vec_len l.buffer;
  within : vec_len l.bytes ≤ l.most;
  consumed : Consumes (g.F.Files.left l.fn.files) (g.F.Files.left l.files) l.bytes.items;
  ready : IsTrue (g.F.Files.is_ready l.files);
  no_fault : g.F.Files.faults l.files ≡ g.F.Files.faults l.fn.files;
  same_folder : g.F.Files.told l.files ≡ g.F.Files.told l.fn.files;
  same_begun : g.F.Files.begun l.files ≡ g.F.Files.begun l.fn.files;
  same_mark : g.F.Files.mark l.files ≡ g.F.Files.mark l.fn.files;
}

abbrev pub decreases-pieces : goal.decreases-pieces
decreases-pieces g l = l.most - vec_len l.bytes
