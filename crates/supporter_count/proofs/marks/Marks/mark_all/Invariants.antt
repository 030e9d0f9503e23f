use Rattle.std.proofs.Common.{◌≡◌, ◌≤◌, ◌+◌, ◌++◌, ℕ, List, length, take}
use Rattle.std.specs.Set.{distinct_count}
use Rattle.supporter_count.specs.Marks.{AreMarked}
use Rattle.supporter_count.proofs.Unique.{same}
use Rattle.supporter_count.proofs.marks.Marks.mark_all.Given as goal

abbrev pub invariant-facts : goal.invariant-facts
invariant-facts l = record {
  marked : (before : List ℕ) → AreMarked l.fn.self before → AreMarked l.self (before ++ take l.place l.facts) × (distinct_count same (before ++ take l.place l.facts) ≡ distinct_count same before + l.more);
  few : l.more ≤ l.place;
  size : length l.self.stamps.items ≡ length l.fn.self.stamps.items;
  current : l.self.current ≡ l.fn.self.current;
}
