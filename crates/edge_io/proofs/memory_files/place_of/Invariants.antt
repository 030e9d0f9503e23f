use Rattle.std.proofs.Common.{◌≡◌, drop}
use Rattle.edge_io.specs.Folder.{bytes_named}
use Rattle.edge_io.proofs.memory_files.place_of.Given as goal

abbrev pub invariant-files : goal.invariant-files
invariant-files l = bytes_named (drop l.i l.files) l.name ≡ bytes_named l.files l.name
