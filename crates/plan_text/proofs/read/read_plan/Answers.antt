use Rattle.std.specs.Prelude.{option_map}
use Rattle.plan_text.specs.Plans.{lines_of}
use Rattle.plan_text.specs.internal.Reading.{lines_left}
use Rattle.plan_text.proofs.Answered.{reads_here, bad_here}
use Rattle.plan_text.proofs.read.read_plan.Goals as goal

pub returns-then-not-branch : goal.returns-then-not-branch
returns-then-not-branch c =
    bad_here c.args.bytes.now c.loop-left.number c.loop-left.steps (lines_of c.in-Some.text.now) c.first_line.result.0.now
    (lines_left (option_map (λ r. r.now) c.first_line.result.1))
    (rw c.in-Some.is at c.loop-left.invariant.whole) c.first_line.ensures.lines
    (rw c.if-not-branch.true at c.in_ok-read_line.ensures)

pub returns : goal.returns
returns c = reads_here c.args.bytes.now c.loop-left.number c.loop-left.steps (rw c.in_default.is at c.loop-left.invariant.whole)
