use Rattle.std.proofs.Common.{List, ℕ, ap, sym, ◌∙◌}
use Rattle.std.specs.Prelude.{bytes_eq}
use Rattle.bound_actions.proofs.Spelling.{passed, past}
use Rattle.bound_actions.proofs.texts.variable_text.Goals as goal

pub each-preserved : goal.each-preserved
each-preserved c =
    passed c.args.bound.now.checked.now c.args.bound.now.params.now c.args.bound.now.objects.now c.args.name.now c.each.place c.index-bound-place.result c.each-test.true c.if-place-bound.true
    (ap (λ (t : List ℕ). bytes_eq c.args.name.now t) (sym c.as_slice.ensures) ∙ sym c.if-eq.ensures)
    ∙ c.each.invariant

pub returns-else-place-bound : goal.returns-else-place-bound
returns-else-place-bound c =
    sym (past c.args.bound.now.checked.now c.args.bound.now.params.now c.args.bound.now.objects.now c.args.name.now c.each.place c.if-place-bound.false) ∙ c.each.invariant
