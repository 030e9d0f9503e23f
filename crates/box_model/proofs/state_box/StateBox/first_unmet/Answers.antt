use Rattle.std.proofs.Common.{◌≡◌, ◌<◌, ◌≤◌, List, Bool, length, get_or, sym, ap, ◌∙◌, subst, refl}
use Rattle.ground_task.specs.declared.raw.Ground.{Ground}
use Rattle.ground_task.specs.declared.raw.RawTask.{RawTask}
use Rattle.box_model.specs.Demands.{is_unmet}
use Rattle.box_model.proofs.Positions.{passed_over, found_at, not_found, none_at_all, none_passes}
use Rattle.box_model.proofs.state_box.StateBox.first_unmet.Goals as goal

pub returns-then-is_unmet-clause-first : goal.returns-then-is_unmet-clause-first
returns-then-is_unmet-clause-first c =
    let t = c.args.task.now in
    let test : Ground → Bool = is_unmet t.places c.args.self.now in
    let actions : c.as_slice-actions.result.now ≡ t.raw.actions = c.as_slice-actions.ensures ∙ ap (λ (r : RawTask). r.actions) c.raw.ensures.value in
    let a : Ground = c.index-actions-number.result in
    found_at test t.raw.actions c.each.number a (subst (λ (xs : List Ground). c.each.number < length xs) actions c.each-test.true)
    (c.index-actions-number.is ∙ ap (λ (xs : List Ground). get_or xs c.each.number a) actions) c.if-is_unmet.ensures c.each.invariant

pub each-preserved : goal.each-preserved
each-preserved c =
    let t = c.args.task.now in
    let test : Ground → Bool = is_unmet t.places c.args.self.now in
    let actions : c.as_slice-actions.result.now ≡ t.raw.actions = c.as_slice-actions.ensures ∙ ap (λ (r : RawTask). r.actions) c.raw.ensures.value in
    let a : Ground = c.index-actions-number.result in
    sym (passed_over test t.raw.actions c.each.number a (subst (λ (xs : List Ground). c.each.number < length xs) actions c.each-test.true)
    (c.index-actions-number.is ∙ ap (λ (xs : List Ground). get_or xs c.each.number a) actions) c.if-is_unmet.ensures) ∙ c.each.invariant

pub returns-clause-first : goal.returns-clause-first
returns-clause-first c =
    let t = c.args.task.now in
    let test : Ground → Bool = is_unmet t.places c.args.self.now in
    let actions : c.as_slice-actions.result.now ≡ t.raw.actions = c.as_slice-actions.ensures ∙ ap (λ (r : RawTask). r.actions) c.raw.ensures.value in
    none_at_all test t.raw.actions (not_found test t.raw.actions c.each.number (subst (λ (xs : List Ground). length xs ≤ c.each.number) actions c.each-test.false) c.each.invariant)

pub returns-clause-closed : goal.returns-clause-closed
returns-clause-closed c =
    let t = c.args.task.now in
    let test : Ground → Bool = is_unmet t.places c.args.self.now in
    let actions : c.as_slice-actions.result.now ≡ t.raw.actions = c.as_slice-actions.ensures ∙ ap (λ (r : RawTask). r.actions) c.raw.ensures.value in
    (λ h. refl, λ h. none_passes test t.raw.actions 0 (not_found test t.raw.actions c.each.number (subst (λ (xs : List Ground). length xs ≤ c.each.number) actions c.each-test.false) c.each.invariant))
