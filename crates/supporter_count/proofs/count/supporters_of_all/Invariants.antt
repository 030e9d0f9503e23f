use Rattle.std.proofs.Common.{◌≡◌, ◌≤◌, ◌*◌, length, take}
use Rattle.std.specs.List.{sum_by}
use Rattle.supporter_count.specs.Counts.{supporters_of}
use Rattle.supporter_count.specs.Marks.{AreOld}
use Rattle.supporter_count.proofs.count.supporters_of_all.Given as goal

abbrev pub invariant-actions : goal.invariant-actions
invariant-actions l = record {
  old : AreOld l.marks;
  size : length l.marks.stamps.items ≡ length l.fn.marks.stamps.items;
  current : l.marks.current ≡ l.number;
  few : l.count ≤ 1024 * l.number;
  counted : l.count ≡ sum_by supporters_of (take l.number l.actions);
}
