use Rattle.std.proofs.Common.{◌≡◌, ◌<◌, ℕ, List, length, get_or, sym, ap, ◌∙◌, subst}
use Rattle.ground_task.specs.declared.raw.Change.{Change}
use Rattle.box_model.specs.Demands.{meets_change}
use Rattle.box_model.proofs.DemandSteps.{fails_at}
use Rattle.box_model.proofs.state_box.StateBox.meets_nums.Goals as goal

pub returns-then-not-meets_change : goal.returns-then-not-meets_change
returns-then-not-meets_change c =
    let a = c.args.action.now in
    let items : c.as_slice-fluent-items.result.now ≡ a.nums = c.as_slice-fluent-items.ensures in
    let e : ℕ × Change = c.each-item.result in
    fails_at (λ (effect : ℕ × Change). meets_change c.args.task.now.places c.args.self.now a.pre effect.0 effect.1) a.nums c.each.fluent-index e
    (subst (λ (es : List (ℕ × Change)). c.each.fluent-index < length es) items c.each-test.true)
    (c.each-item.is ∙ ap (λ (es : List (ℕ × Change)). get_or es c.each.fluent-index e) items)
    (sym c.meets_change.ensures ∙ c.if-not-meets_change.true) c.each.invariant
