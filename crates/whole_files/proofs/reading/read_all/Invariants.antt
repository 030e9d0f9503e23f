use Rattle.std.proofs.Common.{◌≡◌, take, length}
use Rattle.whole_files.specs.Gathered.{AreTexts}
use Rattle.whole_files.specs.Seen.{HasBegun, saw}
use Rattle.whole_files.proofs.reading.read_all.Given as goal

abbrev pub invariant-each : goal.invariant-each
invariant-each g l = record {
  as_many : length l.texts ≡ l.file-index;
  are_texts : AreTexts (g.F.Files.told l.fn.files) (take l.file-index l.wanted) l.texts;
  begun : HasBegun (saw g.F.Files l.fn.files l.files) l.file-index;
  no_fault : g.F.Files.faults l.files ≡ g.F.Files.faults l.fn.files;
  same_folder : g.F.Files.told l.files ≡ g.F.Files.told l.fn.files;
}
