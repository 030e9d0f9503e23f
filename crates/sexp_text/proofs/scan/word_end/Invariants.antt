use Rattle.std.proofs.Common.{length, ◌-◌, ◌≡◌, ◌+◌, ◌≤◌, drop}
use Rattle.sexp_text.specs.Reading.{word_len}
use Rattle.sexp_text.proofs.scan.word_end.Given as goal

abbrev pub invariant-loop-to : goal.invariant-loop-to
invariant-loop-to l = record {
  within : l.to ≤ length l.bytes;
  whole : l.to + word_len (drop l.to l.bytes) ≡ l.at + word_len (drop l.at l.bytes);
}

abbrev pub decreases-loop-to : goal.decreases-loop-to
decreases-loop-to l = length l.bytes - l.to
