use Rattle.std.proofs.Common.{[], arith}
use Rattle.box_model.specs.declared.state_box.May.TheVariants.{Any}
use Rattle.cert_text.specs.Lines.{fact_part}
use Rattle.cert_text.proofs.Parts.{one_more, all_parts}
use Rattle.cert_text.proofs.lines.write_facts.Goals as goal

pub each-preserved : goal.each-preserved
each-preserved c =
    one_more (λ part. fact_part c.args.version part.0 part.1) c.args.out.now c.each.out c.write_fact_at.new.out c.args.names.now c.args.facts.now c.each.number [] Any
    (omega arith) (omega arith) c.each.invariant c.in_ok-write_fact_at.ensures.ok

pub returns-clause-ok : goal.returns-clause-ok
returns-clause-ok c =
    all_parts (λ part. fact_part c.args.version part.0 part.1) c.args.out.now c.each.out c.args.names.now c.args.facts.now c.each.number
    (omega arith) (omega arith) c.each.invariant
