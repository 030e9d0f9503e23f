use Rattle.std.proofs.Common.{ℕ, false, slice_index_or, ◌++◌, [], ◌∷◌, List, ap, sym, ◌∙◌, arith}
use Rattle.std.proofs.lemmas.List.FromFn.{map-range_with_len_more}
use Rattle.box_model.specs.Boxes.{only}
use Rattle.box_model.specs.declared.state_box.May.{May}
use Rattle.box_model.proofs.around.facts_around.Goals as goal

pub each-preserved : goal.each-preserved
each-preserved c =
    let f : ℕ → May = λ k. only (slice_index_or c.args.state.now.facts k false) in
    c.in_ok-push.ensures.items
    ∙ ap (λ (m : May). c.each.facts.items ++ m ∷ []) (c.only.ensures ∙ ap only c.fact.ensures)
    ∙ ap (λ (ms : List May). ms ++ f c.each.fact ∷ []) c.each.invariant
    ∙ sym (map-range_with_len_more f 0 c.each.fact c.each.fact (omega arith))
