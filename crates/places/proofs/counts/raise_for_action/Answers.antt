use Rattle.std.proofs.Common.{◌≡◌, ◌<◌, ◌+◌, ◌||◌, ℕ, false, List, ap, get_or, length, subst, sym, take, ◌∙◌}
use Rattle.std.proofs.lemmas.List.{take_all}
use Rattle.std.proofs.lemmas.Option.{get_or_from_slice_get}
use Rattle.ground_task.specs.declared.raw.Change.{Change}
use Rattle.ground_task.specs.declared.raw.GExpr.{GExpr}
use Rattle.ground_task.specs.declared.raw.Ground.{Ground}
use Rattle.places.specs.Inside.{is_short, raised, AreMet}
use Rattle.places.proofs.Rises.{effect_met, effect_raised}
use Rattle.places.proofs.counts.raise_for_action.Goals as goal

pub each-preserved : goal.each-preserved
each-preserved c =
    let raw = c.args.raw.now in
    let a = c.index-as_slice-number.result in
    let i = c.each.effect-index in
    let effect = c.effect-item.result in
    let old = c.args.counts.now.items in
    let mid = c.each.counts.items in
    let is = c.index-as_slice-number.is ∙ ap (λ (xs : List Ground). get_or xs c.args.number a) c.as_slice.ensures in
    let here = c.effect-item.is ∙ ap (λ (xs : List (ℕ × Change)). get_or xs i effect) c.as_slice-effect-items.ensures in
    let within = subst (λ (xs : List (ℕ × Change)). i < length xs) c.as_slice-effect-items.ensures c.each-test.true in
    let short = c.raise-rose.ensures.rose ∙ ap (λ (x : GExpr). is_short mid effect.0 x) c.right_side.ensures in
    let made = c.raise-rose.ensures.counts ∙ ap (λ (x : GExpr). raised mid effect.0 x) c.right_side.ensures in
    let before = λ (e : c.each.rose ≡ false). subst (λ (xs : List (ℕ × Change)). AreMet old (take i xs)) c.as_slice-effect-items.ensures (c.each.invariant.2 e) in
    let rise = effect_raised raw c.args.number a c.requires.known is c.requires.valid i effect within here old mid c.raise-rose.new.counts.items c.each.rose c.raise-rose.result c.each.invariant.0 c.each.invariant.1 short made in (
      rise.as_many ∙ c.requires.a_count_each,
      rise,
      λ (e : (c.each.rose || c.raise-rose.result) ≡ false). subst (λ (xs : List (ℕ × Change)). AreMet old (take (i + 1) xs)) (sym c.as_slice-effect-items.ensures)
          (effect_met raw c.args.number a c.requires.known is c.requires.valid i effect within here old mid c.each.rose c.raise-rose.result c.each.invariant.1 short before e),
    )

pub returns-clause-met : goal.returns-clause-met
returns-clause-met c = λ e a at.
    let read = c.index-as_slice-number.result in
    let is = c.index-as_slice-number.is ∙ ap (λ (xs : List Ground). get_or xs c.args.number read) c.as_slice.ensures in
    let same : read ≡ a = is ∙ get_or_from_slice_get c.args.raw.now.actions c.args.number a read at in
    let all = take_all c.each.effect-index c.as_slice-effect-items.result.now c.each-test.false in
    subst (AreMet c.args.counts.now.items) (all ∙ c.as_slice-effect-items.ensures ∙ ap (λ (g : Ground). g.nums) same) (c.each.invariant.2 e)
