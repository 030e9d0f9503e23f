use Rattle.std.proofs.Common.{◌≡◌, ◌<◌, List, length, arith, subst, sym}
use Rattle.box_model.specs.declared.state_box.StateBox.{StateBox}
use Rattle.kept_boxes.proofs.Groups.{grouped_large, grouped_more, grouped_small}
use Rattle.kept_boxes.proofs.boxes.KeptBoxes.push.Goals as goal

pub invariant_of-self-in_err-widen_group-2 : goal.invariant_of-self-in_err-widen_group-2
invariant_of-self-in_err-widen_group-2 c =
    let k = c.self.inside in
    rw c.in_err-widen_group-2.ensures.err
    (grouped_small k.boxes.items k.small.items k.large.items c.widen_group.new.hulls.items _ c.args.own c.self.invariant c.in_ok-widen_group.ensures.ok)

pub invariant_of-self-in_err-push : goal.invariant_of-self-in_err-push
invariant_of-self-in_err-push c =
    let k = c.self.inside in
    let first = grouped_small k.boxes.items k.small.items k.large.items c.widen_group.new.hulls.items _ c.args.own c.self.invariant c.in_ok-widen_group.ensures.ok in
    rw c.in_err-push.ensures.items
    (grouped_large k.boxes.items c.widen_group.new.hulls.items k.large.items c.widen_group-2.new.hulls.items _ c.args.own first c.in_ok-widen_group-2.ensures.ok)

pub invariant_of-self-2 : goal.invariant_of-self-2
invariant_of-self-2 c =
    let k = c.self.inside in
    let number : c.len-number.result ≡ length k.boxes.items = omega (arith, k.boxes.ok.0) in
    rw c.in_ok-push.ensures.items
    (grouped_more k.boxes.items k.small.items k.large.items c.widen_group.new.hulls.items c.widen_group-2.new.hulls.items c.len-number.result c.args.own c.self.invariant number
    (subst (λ (bs : List StateBox). length bs < 1000000000) (sym c.self.view_is) c.requires.room) c.in_ok-widen_group.ensures.ok c.in_ok-widen_group-2.ensures.ok)
