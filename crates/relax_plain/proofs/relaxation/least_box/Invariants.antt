use Rattle.std.proofs.Common.{◌≡◌, length}
use Rattle.relax_plain.specs.Marks.{IsSettled}
use Rattle.relax_plain.specs.Spread.{IsGrown}
use Rattle.relax_plain.proofs.Settling.{work_left}
use Rattle.relax_plain.proofs.relaxation.least_box.Given as goal

abbrev pub invariant-actions : goal.invariant-actions
invariant-actions l = record {
  grown : IsGrown l.task l.initial.state_box l.state_box;
  as_many : length l.marks ≡ length l.task.raw.actions;
  settled : IsSettled l.task l.state_box l.marks;
}

abbrev pub decreases-actions : goal.decreases-actions
decreases-actions l = work_left l.task l.state_box l.marks
