use Rattle.std.proofs.Common.{length, ◌-◌, ◌≡◌, ◌≤◌, drop, map}
use Rattle.std.specs.Prelude.{bytes_eq}
use Rattle.num_ends.specs.Names.{folded}
use Rattle.sexp_text.proofs.words.is_word.Given as goal

abbrev pub invariant-loop-at : goal.invariant-loop-at
invariant-loop-at l = record {
  within : l.at ≤ length l.bytes;
  within_word : l.at ≤ length l.word;
  whole : bytes_eq (map folded (drop l.at l.bytes)) (drop l.at l.word) ≡ bytes_eq (map folded l.bytes) l.word;
}

abbrev pub decreases-loop-at : goal.decreases-loop-at
decreases-loop-at l = length l.bytes - l.at
