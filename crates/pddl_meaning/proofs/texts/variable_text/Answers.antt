use Rattle.std.proofs.Common.{ℕ, List, ap, sym, ◌∙◌}
use Rattle.std.specs.Prelude.{bytes_eq}
use Rattle.pddl_meaning.proofs.Spelled.{passed_over, past_args}
use Rattle.pddl_meaning.proofs.texts.variable_text.Goals as goal

pub each-preserved : goal.each-preserved
each-preserved c =
    passed_over c.args.params.now c.args.args.now c.args.name.now c.each.place c.index-params-place.result c.each-test.true c.if-place-args.true (ap (λ (t : List ℕ). bytes_eq c.args.name.now t) (sym c.as_slice.ensures) ∙ sym c.if-eq.ensures)
    ∙ c.each.invariant

pub returns-else-place-args : goal.returns-else-place-args
returns-else-place-args c =
    sym (past_args c.args.params.now c.args.args.now c.args.name.now c.each.place c.if-place-args.false) ∙ c.each.invariant
