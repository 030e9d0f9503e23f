use Rattle.std.proofs.Common.{ap, ◌∙◌}
use Rattle.std.proofs.lemmas.Result.{err_from_is_err_and, IfOk-weaker, IfErr-weaker}
use Rattle.sexp_text.specs.Open.{marks_read, depth_of}
use Rattle.sexp_text.proofs.Depths.{depth_through, through-one}
use Rattle.sexp_text.proofs.TreesRead.{seen_next, more_seen, bad_byte, refused, are_finished, is_left_open}
use Rattle.sexp_text.proofs.reading.read_trees.Goals as goal

pub returns-in_err-take-in-Ok-Some-clause-fault : goal.returns-in_err-take-in-Ok-Some-clause-fault
returns-in_err-take-in-Ok-Some-clause-fault c =
    let next = rw c.in-Ok-Some.field-0-is at c.in-Ok-Some.ensures in
    let p = err_from_is_err_and c.from_residual.result c.from_residual.ensures.1 in
    rw (p.1, p.2) (refused c.args.bytes.now c.loop-mark.at c.in-Ok-Some.mark (marks_read c.loop-mark.reading) (depth_of c.loop-mark.reading) _
    c.loop-mark.invariant.seen c.loop-mark.invariant.depth next.exact c.in_err-take-in-Ok-Some.ensures.err)

pub loop-mark-preserved : goal.loop-mark-preserved
loop-mark-preserved c =
    let found = rw c.in-Ok-Some.field-0-is at c.in-Ok-Some.ensures in
    let old = marks_read c.loop-mark.reading in
    let new = marks_read c.take.new.self in
    let m = c.in-Ok-Some.mark in
    let next = seen_next c.args.bytes.now c.loop-mark.at m found.exact in
    record {
      within = found.within;
      seen = more_seen _ _ _ old new m c.loop-mark.invariant.seen next c.in_ok-take-in-Ok-Some.ensures.marks;
      depth = ap (depth_through 0) c.in_ok-take-in-Ok-Some.ensures.marks ∙ through-one old m 0 (depth_of c.loop-mark.reading) (depth_of c.take.new.self) c.loop-mark.invariant.depth c.in_ok-take-in-Ok-Some.ensures.depth;
    }

pub returns-in-Ok-None-clause-trees : goal.returns-in-Ok-None-clause-trees
returns-in-Ok-None-clause-trees c =
    let next = rw c.in-Ok-None.field-0-is at c.in-Ok-None.ensures in
    IfOk-weaker c.finish.result _ _
    (λ trees h. are_finished c.args.bytes.now c.loop-mark.at c.loop-mark.reading.outer.items c.loop-mark.reading.trees trees c.loop-mark.invariant.seen c.loop-mark.invariant.depth next.exact h.0 h.1)
    c.finish.ensures.ok

pub returns-in-Ok-None-clause-fault : goal.returns-in-Ok-None-clause-fault
returns-in-Ok-None-clause-fault c =
    let next = rw c.in-Ok-None.field-0-is at c.in-Ok-None.ensures in
    IfErr-weaker c.finish.result _ _
    (λ fault h _. is_left_open c.args.bytes.now c.loop-mark.at h.0 c.loop-mark.reading.outer.items c.loop-mark.reading.trees.items fault c.loop-mark.invariant.seen c.loop-mark.invariant.depth next.exact h.1 h.2)
    c.finish.ensures.err

pub returns-in-Err-clause-fault : goal.returns-in-Err-clause-fault
returns-in-Err-clause-fault c = λ _.
    bad_byte c.args.bytes.now c.loop-mark.at c.in-Err.position (marks_read c.loop-mark.reading) (depth_of c.loop-mark.reading) c.loop-mark.invariant.seen c.loop-mark.invariant.depth c.in-Err.ensures.exact
