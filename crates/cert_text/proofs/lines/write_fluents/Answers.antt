use Rattle.std.proofs.Common.{[], arith}
use Rattle.num_ends.specs.Ends.{whole_line}
use Rattle.cert_text.specs.Lines.{fluent_part}
use Rattle.cert_text.proofs.Parts.{one_more, all_parts}
use Rattle.cert_text.proofs.lines.write_fluents.Goals as goal

pub each-preserved : goal.each-preserved
each-preserved c =
    one_more (λ part. fluent_part c.args.version part.0 part.1) c.args.out.now c.each.out c.write_fluent_at.new.out c.args.names.now c.args.fluents.now c.each.number [] whole_line
    (omega arith) (omega arith) c.each.invariant c.in_ok-write_fluent_at.ensures.ok

pub returns-clause-ok : goal.returns-clause-ok
returns-clause-ok c =
    all_parts (λ part. fluent_part c.args.version part.0 part.1) c.args.out.now c.each.out c.args.names.now c.args.fluents.now c.each.number
    (omega arith) (omega arith) c.each.invariant
