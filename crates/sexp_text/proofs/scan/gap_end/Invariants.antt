use Rattle.std.proofs.Common.{length, ◌-◌, ◌≡◌, ◌≤◌, drop}
use Rattle.sexp_text.specs.Reading.{items_at, items_from}
use Rattle.sexp_text.proofs.scan.gap_end.Given as goal

abbrev pub invariant-loop-at : goal.invariant-loop-at
invariant-loop-at l = record {
  forward : l.fn.at ≤ l.at;
  within : l.at ≤ length l.bytes;
  same : items_from l.comment l.at (drop l.at l.bytes) ≡ items_at l.bytes l.fn.at;
}

abbrev pub decreases-loop-at : goal.decreases-loop-at
decreases-loop-at l = length l.bytes - l.at
