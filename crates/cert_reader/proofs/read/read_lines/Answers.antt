use Rattle.std.proofs.Common.{◌++◌, ◌∷◌, arith}
use Rattle.cert_reader.specs.Certificates.{first_line}
use Rattle.cert_reader.proofs.InLines.{not_empty}
use Rattle.cert_reader.proofs.InTexts.{first_read, line_read, against_line, behind_end, few_lines}
use Rattle.cert_reader.proofs.read.read_lines.Goals as goal

pub lines-init : goal.lines-init
lines-init c =
    first_read c.args.task.now c.args.version c.args.text.now (record { boxes = c.new.result; states = c.new-2.result }) c.new.ensures c.new-2.ensures

pub overflow_add-result : goal.overflow_add-result
overflow_add-result c =
    omega (arith, few_lines c.args.task.now c.args.version (first_line c.args.version ++ 10 ∷ c.args.text.now) c.lines.cert c.lines.number c.lines.rest.now c.lines.invariant)

pub returns-else-is_empty : goal.returns-else-is_empty
returns-else-is_empty c =
    behind_end c.args.task.now c.args.version (first_line c.args.version ++ 10 ∷ c.args.text.now) c.lines.cert c.lines.number c.lines.rest.now c.in-Some.line.now c.in-Some.behind.now c.lines.invariant c.in-Some.ensures.0
    (c.is_word.ensures.0 c.if-is_word.true) (not_empty c.is_empty.result c.in-Some.behind.now c.is_empty.ensures c.if-is_empty.false)

pub returns-in-Err : goal.returns-in-Err
returns-in-Err c =
    against_line c.args.task.now c.args.version (first_line c.args.version ++ 10 ∷ c.args.text.now) c.lines.cert c.lines.number c.lines.rest.now c.in-Some.line.now c.in-Some.behind.now c.lines.invariant c.in-Some.ensures.0 c.in-Some.ensures.1
    c.in-Err.fault c.in-Err.ensures.err

pub overflow_add-number : goal.overflow_add-number
overflow_add-number c =
    omega (arith, few_lines c.args.task.now c.args.version (first_line c.args.version ++ 10 ∷ c.args.text.now) c.lines.cert c.lines.number c.lines.rest.now c.lines.invariant)

pub lines-preserved : goal.lines-preserved
lines-preserved c =
    line_read c.args.task.now c.args.version (first_line c.args.version ++ 10 ∷ c.args.text.now) c.lines.cert c.lines.number c.lines.rest.now c.in-Some.line.now c.in-Some.behind.now c.lines.invariant c.in-Some.ensures.0
    c.add_line.new.cert c.in_default-add_line.ensures.ok
