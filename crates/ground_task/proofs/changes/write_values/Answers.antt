use Rattle.std.proofs.Common.{◌<◌, ℕ, ap, arith, length, refl, subst, sym, ◌∙◌}
use Rattle.std.proofs.lemmas.List.{length-set}
use Rattle.ground_task.specs.declared.raw.Change.{Change}
use Rattle.ground_task.specs.Inside.{IsEffectOf}
use Rattle.ground_task.specs.Ranged.{is_change_in_bounds}
use Rattle.ground_task.specs.Rows.{RowValue}
use Rattle.ground_task.proofs.NewValues.{all_after, written}
use Rattle.ground_task.proofs.changes.write_values.Goals as goal

pub each-preserved : goal.each-preserved
each-preserved c =
    let t = c.args.task.now in
    let s = c.args.state.now in
    let i = c.each.effect-index in
    let effect = c.effect-item.result in
    let given = c.in-Some.ensures.given in
    let this = subst (λ (e : ℕ × Change). IsEffectOf t e.0 e.1) (sym c.effect-item.is) (c.requires.effects.each i effect c.each-test.true) in
    let known : effect.0 < length c.each.next.values = omega (arith, this.known, c.requires.of_task.a_number_each, c.each.invariant.3) in
    let made = c.if-not-try_value.ensures.written refl in
    let is_set = ap (λ (u : RowValue). u.values) made in (
      sym (all_after (λ (e : ℕ × Change). is_change_in_bounds t.places s e.0 e.1) c.args.effects.now i effect c.each-test.true c.effect-item.is given.fits) ∙ c.each.invariant.0,
      ap (λ (u : RowValue). u.facts) made ∙ c.each.invariant.1,
      ap (λ (u : RowValue). u.is_wide) made ∙ c.each.invariant.2,
      ap length is_set ∙ length-set c.each.next.values effect.0 c.in-Some.value.n ∙ c.each.invariant.3,
      written t.places s c.args.effects.now i effect c.each-test.true c.effect-item.is c.requires.effects.one_each c.in-Some.value c.each.next.values c.try_value.new.self.values given known is_set c.each.invariant.4,
    )
