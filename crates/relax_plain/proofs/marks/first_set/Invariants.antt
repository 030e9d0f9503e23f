use Rattle.std.proofs.Common.{◌≡◌, ℕ, ◌<◌, ◌≤◌, false}
use Rattle.relax_plain.specs.Marks.{is_marked}
use Rattle.relax_plain.proofs.marks.first_set.Given as goal

abbrev pub invariant-search : goal.invariant-search
invariant-search l = (before : ℕ) → l.from ≤ before → before < l.number → is_marked l.marks before ≡ false
