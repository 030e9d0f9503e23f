use Rattle.std.proofs.Common.{◌≤◌, length, arith, ap, sym, ◌∙◌}
use Rattle.cert_text.specs.Lines.{state_line}
use Rattle.answer_text.proofs.Listing.{state_at}
use Rattle.answer_text.proofs.lines.append_claim.Goals as goal

pub returns-then-place-states : goal.returns-then-place-states
returns-then-place-states c =
    let past : length c.args.boxes.now ≤ c.args.number = omega (arith, c.if-number-boxes.false) in
    let there = state_at c.args.task.now c.args.boxes.now (λ s. s.now) c.args.states.now c.args.number c.index-states-place.result past c.if-place-states.true in
    let here = ap (λ s. state_line c.args.task.now s.now) (sym c.index-states-place.is) in
    rw (there ∙ here) c.write_state.ensures.ok
