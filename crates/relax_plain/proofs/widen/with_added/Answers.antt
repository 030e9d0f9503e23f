use Rattle.std.proofs.Common.{◌≡◌, ◌<◌, ◌∙◌, ℕ, List, true, length, get_or, take, subst}
use Rattle.std.proofs.lemmas.Bool.{and_from}
use Rattle.std.proofs.lemmas.List.Folds.{list_all_more}
use Rattle.box_model.specs.Boxes.{fact_in, may_be}
use Rattle.relax_plain.proofs.BoxLemmas.{box_trans, kept_may_be_all}
use Rattle.relax_plain.proofs.Potentials.{added_falls}
use Rattle.relax_plain.proofs.Settling.{added_in_closed}
use Rattle.relax_plain.proofs.Spreads.{spread_trans}
use Rattle.relax_plain.proofs.widen.with_added.Goals as goal

known_item : (c : goal.After-row_known-1) → c.each.fact-index < length c.args.action.now.adds
known_item c = subst (λ (fs : List ℕ). c.each.fact-index < length fs) c.as_slice-fact-items.ensures c.each-test.true

pub admit-wider-requires-clause-asked : goal.admit-wider-requires-clause-asked
admit-wider-requires-clause-asked c = λ d d_box w closed.
    rw c.as_slice-fact-items.ensures
    (added_in_closed c.args.task.now c.args.number c.args.action.now c.args.state_box c.requires.a_box c.requires.applied d d_box
    (box_trans c.args.state_box c.each.wider d c.each.invariant.spread.grown.wider w) closed c.each.fact-index (known_item c))

pub admit-wider-requires-clause-progress : goal.admit-wider-requires-clause-progress
admit-wider-requires-clause-progress c = λ d w no' yes'.
    added_falls c.args.task.now c.args.number c.args.action.now c.requires.applied.is_action c.each.wider d w c.each.fact-index (known_item c)
    (rw c.as_slice-fact-items.ensures at no') (rw c.as_slice-fact-items.ensures at yes')

pub each-preserved : goal.each-preserved
each-preserved c =
    let t = c.args.task.now in
    let a = c.args.action.now in
    let i = c.each.fact-index in
    let known : i < length a.adds = subst (λ (fs : List ℕ). i < length fs) c.as_slice-fact-items.ensures c.each-test.true in
    let this : may_be (fact_in c.admit-wider.result (get_or a.adds i 0)) true ≡ true =
    subst (λ (fs : List ℕ). may_be (fact_in c.admit-wider.result (get_or fs i 0)) true ≡ true) c.as_slice-fact-items.ensures c.admit-wider.ensures.admitted in
    record {
      spread = spread_trans t c.args.state_box c.each.wider c.admit-wider.result c.args.marks.now c.each.marks c.admit-wider.new.marks c.each.invariant.spread c.admit-wider.ensures.spread;
      added = list_all_more (λ f. may_be (fact_in c.admit-wider.result f) true) a.adds i 0 known
          ∙ and_from _ _ ((kept_may_be_all t (take i a.adds)).kept c.each.wider c.admit-wider.result c.each.invariant.spread.grown.a_box c.admit-wider.ensures.spread.grown.wider c.each.invariant.added) this;
    }
