use Rattle.std.proofs.Common.{ap, ◌∙◌, arith}
use Rattle.cert_text.specs.declared.cert.Cert.{Cert}
use Rattle.cert_check.proofs.Verdicts.{one_good_more, all_good}
use Rattle.cert_check.proofs.lines.first_against_states.Goals as goal

pub each-preserved : goal.each-preserved
each-preserved c =
    let i = c.args.index.now in
    record {
      good = one_good_more c.args.task.now i.boxes i.states c.as_slice-states.result.now (c.as_slice-states.ensures ∙ ap (λ (cert : Cert). cert.states) c.cert-2.ensures)
          c.each.number c.each.invariant.good c.index-states-number.result c.index-states-number.is c.in_default.ensures.none;
      room = c.in_default.ensures.room;
    }

pub returns-clause-none : goal.returns-clause-none
returns-clause-none c =
    let i = c.args.index.now in
    all_good c.args.task.now i.boxes i.states c.as_slice-states.result.now (c.as_slice-states.ensures ∙ ap (λ (cert : Cert). cert.states) c.cert-2.ensures)
    c.each.number c.each.invariant.good (omega arith)
