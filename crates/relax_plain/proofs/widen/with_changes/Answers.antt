use Rattle.std.proofs.Common.{◌≡◌, ◌<◌, ◌∙◌, ℕ, List, length, get_or, ap, subst, sym}
use Rattle.ground_task.specs.declared.raw.Change.{Change}
use Rattle.box_model.specs.Boxes.{fluent_in}
use Rattle.relax_plain.proofs.BoxLemmas.{box_trans}
use Rattle.relax_plain.proofs.Potentials.{Among, among_at, demand_falls}
use Rattle.relax_plain.proofs.Settling.{changed_in_closed, one_more}
use Rattle.relax_plain.proofs.Spreads.{spread_trans}
use Rattle.relax_plain.proofs.widen.with_changes.Goals as goal

-- the effect that the loop is at
known_item : (nums items : List (ℕ × Change)) (i : ℕ) → items ≡ nums → i < length items → i < length nums
known_item nums items i same h = subst (λ (es : List (ℕ × Change)). i < length es) same h

this_item : (nums items : List (ℕ × Change)) (i : ℕ) (e : ℕ × Change) → items ≡ nums → e ≡ get_or items i e → e ≡ get_or nums i e
this_item nums items i e same is = is ∙ ap (λ (es : List (ℕ × Change)). get_or es i e) same

among_item : (nums items : List (ℕ × Change)) (i : ℕ) (e : ℕ × Change) → items ≡ nums → i < length items → e ≡ get_or items i e → Among e nums
among_item nums items i e same h is =
    subst (λ (p : ℕ × Change). Among p nums) (sym (this_item nums items i e same is)) (among_at nums i e (known_item nums items i same h))

pub extend-wider-requires-clause-asked : goal.extend-wider-requires-clause-asked
extend-wider-requires-clause-asked c = λ d d_box w closed.
    let a = c.args.action.now in
    let e : ℕ × Change = c.each-item.result in
    let i = c.each.fluent-index in
    let items = c.as_slice-fluent-items.result.now in
    sym (c.demanded-lower.ensures.asked (fluent_in d e.0))
    ∙ changed_in_closed c.args.task.now c.args.number a c.args.state_box c.requires.a_box c.requires.applied d d_box
    (box_trans c.args.state_box c.each.wider d c.each.invariant.spread.grown.wider w) closed c.each.wider c.each.invariant.spread.grown.a_box w i e
    (known_item a.nums items i c.as_slice-fluent-items.ensures c.each-test.true) (this_item a.nums items i e c.as_slice-fluent-items.ensures c.each-item.is)

pub extend-wider-requires-clause-progress : goal.extend-wider-requires-clause-progress
extend-wider-requires-clause-progress c = λ d w no' yes'.
    let a = c.args.action.now in
    let e : ℕ × Change = c.each-item.result in
    let i = c.each.fluent-index in
    let items = c.as_slice-fluent-items.result.now in
    demand_falls c.args.task.now c.args.number a c.requires.applied.is_action c.each.wider d w e.0 e.1
    (among_item a.nums items i e c.as_slice-fluent-items.ensures c.each-test.true c.each-item.is)
    (c.demanded-lower.ensures.asked (fluent_in c.each.wider e.0) ∙ no') (c.demanded-lower.ensures.asked (fluent_in d e.0) ∙ yes')

pub each-preserved : goal.each-preserved
each-preserved c =
    let t = c.args.task.now in
    let a = c.args.action.now in
    let e : ℕ × Change = c.each-item.result in
    let i = c.each.fluent-index in
    let items = c.as_slice-fluent-items.result.now in
    record {
      spread = spread_trans t c.args.state_box c.each.wider c.extend-wider.result c.args.marks.now c.each.marks c.extend-wider.new.marks c.each.invariant.spread c.extend-wider.ensures.spread;
      changed = one_more t c.args.number a c.each.wider c.extend-wider.result c.each.marks c.extend-wider.new.marks i e c.requires.applied.is_action c.extend-wider.ensures.spread
          (known_item a.nums items i c.as_slice-fluent-items.ensures c.each-test.true) (this_item a.nums items i e c.as_slice-fluent-items.ensures c.each-item.is)
          (c.demanded-lower.ensures.asked (fluent_in c.extend-wider.result e.0) ∙ c.extend-wider.ensures.extended) c.each.invariant.changed;
    }
