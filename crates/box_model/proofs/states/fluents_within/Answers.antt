use Rattle.std.proofs.Common.{◌≡◌, ◌<◌, ℕ, true, length, get_or, sym, ap₂, ◌∙◌, subst, below_more}
use Rattle.std.proofs.lemmas.List.{get_or_read}
use Rattle.num_ends.specs.Ends.{Interval, is_within, whole_line}
use Rattle.box_model.proofs.states.fluents_within.Goals as goal

pub each-preserved : goal.each-preserved
each-preserved c =
    let i = c.each.i in
    let fluent = get_or_read c.args.fluents.now i c.index-fluents-i.result c.each-test.true c.index-fluents-i.is whole_line in
    let other = get_or_read c.args.others.now i c.index-others-i.result (subst (λ (n : ℕ). i < n) c.requires c.each-test.true) c.index-others-i.is whole_line in
    below_more (λ x. is_within (get_or c.args.fluents.now x whole_line) (get_or c.args.others.now x whole_line) ≡ true) i c.each.invariant
    (sym (c.if-not-within.ensures ∙ ap₂ is_within fluent other))
