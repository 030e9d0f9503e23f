use Rattle.std.proofs.Common.{◌+◌, arith}
use Rattle.cert_check.proofs.Verdicts.{dead_in_index, good_in_cert, covered_in_cert, refused_at_end}
use Rattle.cert_check.proofs.answers.behind_boxes.Goals as goal

pub first_against_states-requires-clause-dead : goal.first_against_states-requires-clause-dead
first_against_states-requires-clause-dead c = dead_in_index c.args.task.now c.in_ok-index.index c.args.cert.now c.in_ok-index.ensures c.requires.dead

pub returns-then-covers : goal.returns-then-covers
returns-then-covers c =
    let t = c.args.task.now in
    let cert = c.args.cert.now in
    c.good_lines.ensures t cert.boxes cert.states c.raw-raw.ensures.placed c.requires.dead
    (good_in_cert t c.in_ok-index.index cert c.in_ok-index.ensures c.in_default.ensures.none)
    (covered_in_cert t c.in_ok-index.index cert c.in_ok-index.ensures c.first.result.now c.first.ensures.value (c.covers.ensures.covered c.if-covers.true))

pub returns : goal.returns
returns c =
    refused_at_end c.args.task.now c.in_ok-index.index c.args.cert.now c.in_ok-index.ensures c.first.result.now c.first.ensures.value
    c.requires.dead c.in_default.ensures.none (c.covers.ensures.missing c.if-covers.false) (2 + c.len.result + c.len-2.result) (omega (arith, c.len.ensures, c.len-2.ensures))
