use Rattle.std.proofs.Common.{◌≡◌, ◌<◌, ◌≤◌, [], length, get_or, Err, arith, rules, ◌∙◌}
use Rattle.answer_text.proofs.Sends.{cut_line, last_cut, last_sent, line_sent}
use Rattle.answer_text.specs.declared.faults.Unsent.TheVariants as unsent
use Rattle.answer_text.specs.internal.Listed.{lines_of}
use Rattle.answer_text.proofs.sending.send.Goals as goal

pub returns-in_err-is_begun-clause-text : goal.returns-in_err-is_begun-clause-text
returns-in_err-is_begun-clause-text g c =
    let within : c.lines.number < length (lines_of c.args.task.now c.args.lines.now) = omega (arith, c.lines-test.true, c.count-number-end.ensures c.args.task.now) in
    let some : 0 < length (get_or (lines_of c.args.task.now c.args.lines.now) c.lines.number []) = c.requires.some c.lines.number [] within in
    let is_err : c.from_residual.result ≡ Err c.in_err-is_begun.field-0.0 = search rules in
    rw is_err (cut_line _ _ _ _ _ _ _ _ within some c.lines.invariant.sent c.in_err-is_begun.ensures.bytes)

pub lines-preserved : goal.lines-preserved
lines-preserved g c =
    let within : c.lines.number < length (lines_of c.args.task.now c.args.lines.now) = omega (arith, c.lines-test.true, c.count-number-end.ensures c.args.task.now) in
    record {
      sent = line_sent _ _ _ _ _ _ _ _ _ within c.lines.invariant.sent c.in_ok-is_begun.ensures.bytes;
      no_fault = c.in_ok-is_begun.ensures.cause ∙ c.lines.invariant.no_fault;
    }

pub returns-in_err-pass_on-clause-text : goal.returns-in_err-pass_on-clause-text
returns-in_err-pass_on-clause-text g c =
    let all : length (lines_of c.args.task.now c.args.lines.now) ≤ c.lines.number = omega (arith, c.lines-test.false, c.count-number-end.ensures c.args.task.now) in
    let is_err : c.from_residual-in_err-pass_on.result ≡ Err unsent.Sink = search rules in
    rw is_err (last_cut _ _ _ _ _ _ _ all c.lines.invariant.sent c.in_err-pass_on.ensures.bytes)

pub returns-clause-text : goal.returns-clause-text
returns-clause-text g c =
    let all : length (lines_of c.args.task.now c.args.lines.now) ≤ c.lines.number = omega (arith, c.lines-test.false, c.count-number-end.ensures c.args.task.now) in
    last_sent _ _ _ _ _ _ _ all c.lines.invariant.sent c.in_ok-pass_on.ensures.bytes.0
