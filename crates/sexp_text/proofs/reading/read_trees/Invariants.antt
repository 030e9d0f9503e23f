use Rattle.std.proofs.Common.{◌≡◌, ◌-◌, ◌≤◌, ◌++◌, length, Some}
use Rattle.sexp_text.specs.Trees.{seen_from, all_allowed}
use Rattle.sexp_text.specs.Open.{marks_read, depth_of}
use Rattle.sexp_text.proofs.Depths.{depth_through}
use Rattle.sexp_text.proofs.reading.read_trees.Given as goal

abbrev pub invariant-loop-mark : goal.invariant-loop-mark
invariant-loop-mark l = record {
  within : l.at ≤ length l.bytes;
  seen : seen_from l.bytes 0 ≡ all_allowed (marks_read l.reading) ++ seen_from l.bytes l.at;
  depth : depth_through 0 (marks_read l.reading) ≡ Some (depth_of l.reading);
}

abbrev pub decreases-loop-mark : goal.decreases-loop-mark
decreases-loop-mark l = length l.bytes - l.at
