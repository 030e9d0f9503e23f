use Rattle.std.proofs.Common.{length, ap, arith}
use Rattle.ground_task.specs.declared.raw.RawTask.{RawTask}
use Rattle.cert_text.proofs.Parts.{one_value_more, all_values}
use Rattle.cert_text.proofs.states.write_fluents.Goals as goal

pub each-preserved : goal.each-preserved
each-preserved c =
    one_value_more c.args.out.now c.each.out c.args.task.now.raw.fluents c.args.task.now.places c.args.state.now c.each.number
    c.raw.ensures.placed.a_count_each c.requires.a_number_each c.each.invariant
    c.write_fluent_at.new.out (omega (arith, ap (λ (raw : RawTask). length raw.fluents) c.raw.ensures.value)) c.in_ok-write_fluent_at.ensures.ok

pub returns-clause-ok : goal.returns-clause-ok
returns-clause-ok c =
    all_values c.args.out.now c.each.out c.args.task.now.raw.fluents c.args.task.now.places c.args.state.now c.each.number
    c.raw.ensures.placed.a_count_each c.requires.a_number_each c.each.invariant
    (omega (arith, ap (λ (raw : RawTask). length raw.fluents) c.raw.ensures.value))
