use Rattle.std.proofs.Common.{◌≡◌, ◌+◌, ◌≤◌, ◌^◌, []}
use Rattle.std.specs.Prelude.{option_map}
use Rattle.plan_text.specs.Plans.{lines_of}
use Rattle.plan_text.specs.internal.Reading.{lines_left, read_from, size_left}
use Rattle.plan_text.proofs.read.read_plan.Given as goal

abbrev pub invariant-loop-left : goal.invariant-loop-left
invariant-loop-left l = record {
  whole : read_from l.number l.steps (lines_left (option_map (λ r. r.now) l.left)) ≡ read_from 1 [] (lines_of l.bytes);
  few : l.number + size_left (option_map (λ r. r.now) l.left) ≤ 2 ^ 30 + 2;
}

abbrev pub decreases-loop-left : goal.decreases-loop-left
decreases-loop-left l = size_left (option_map (λ r. r.now) l.left)
