use Rattle.std.proofs.Common.{[], false, arith}
use Rattle.cert_text.specs.Lines.{part_text, truth_text}
use Rattle.cert_text.proofs.Parts.{one_more, all_parts}
use Rattle.cert_text.proofs.states.write_facts.Goals as goal

pub each-preserved : goal.each-preserved
each-preserved c =
    one_more (λ part. part_text part.0 (truth_text part.1)) c.args.out.now c.each.out c.write_fact_at.new.out c.args.names.now c.args.state.now.facts c.each.number [] false
    (omega arith) (omega arith) c.each.invariant c.in_ok-write_fact_at.ensures.ok

pub returns-clause-ok : goal.returns-clause-ok
returns-clause-ok c =
    all_parts (λ part. part_text part.0 (truth_text part.1)) c.args.out.now c.each.out c.args.names.now c.args.state.now.facts c.each.number
    (omega arith) (omega arith) c.each.invariant
