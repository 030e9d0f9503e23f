use Rattle.std.proofs.Common.{◌≡◌, ◌<◌, ◌∙◌, ◌==◌, ℕ, List, true, false, length, get_or, subst, sym}
use Rattle.std.specs.List.{list_any}
use Rattle.std.proofs.lemmas.Bool.{or_left, or_right}
use Rattle.box_model.specs.Boxes.{fact_in, may_be}
use Rattle.relax_plain.proofs.BoxLemmas.{box_trans}
use Rattle.relax_plain.proofs.Potentials.{deleted_falls}
use Rattle.relax_plain.proofs.Settling.{deleted_in_closed}
use Rattle.relax_plain.proofs.Spreads.{deleted_step, spread_same}
use Rattle.relax_plain.proofs.widen.with_deleted.Goals as goal
use Rattle.relax_plain.proofs.widen.with_deleted.Goals.{then-not-is_listed, else-not-is_listed}

pub admit-wider-requires-clause-asked : goal.admit-wider-requires-clause-asked
admit-wider-requires-clause-asked c = λ d d_box w closed.
    let a = c.args.action.now in
    let known : c.each.fact-index < length a.dels = subst (λ (fs : List ℕ). c.each.fact-index < length fs) c.as_slice-fact-items.ensures c.each-test.true in
    let unlisted : list_any (λ g. g == get_or a.dels c.each.fact-index 0) a.adds ≡ false =
    rw (c.as_slice-adds.ensures, c.as_slice-fact-items.ensures) at (sym c.is_listed.ensures ∙ c.if-not-is_listed.true) in
    rw c.as_slice-fact-items.ensures
    (deleted_in_closed c.args.task.now c.args.number a c.args.state_box c.requires.a_box c.requires.applied d d_box
    (box_trans c.args.state_box c.each.wider d c.each.invariant.spread.grown.wider w) closed c.each.fact-index known unlisted)

pub admit-wider-requires-clause-progress : goal.admit-wider-requires-clause-progress
admit-wider-requires-clause-progress c = λ d w no' yes'.
    let a = c.args.action.now in
    let known : c.each.fact-index < length a.dels = subst (λ (fs : List ℕ). c.each.fact-index < length fs) c.as_slice-fact-items.ensures c.each-test.true in
    deleted_falls c.args.task.now c.args.number a c.requires.applied.is_action c.each.wider d w c.each.fact-index known
    (rw c.as_slice-fact-items.ensures at no') (rw c.as_slice-fact-items.ensures at yes')

pub each-preserved : goal.each-preserved
each-preserved c =
    let t = c.args.task.now in
    let a = c.args.action.now in
    let i = c.each.fact-index in
    let known : i < length a.dels = subst (λ (fs : List ℕ). i < length fs) c.as_slice-fact-items.ensures c.each-test.true in
    elim c.if-not-is_listed.branch [
      | then-not-is_listed w ↦
          let this : may_be (fact_in w.admit-wider.result (get_or a.dels i 0)) false ≡ true =
          subst (λ (fs : List ℕ). may_be (fact_in w.admit-wider.result (get_or fs i 0)) false ≡ true) c.as_slice-fact-items.ensures w.admit-wider.ensures.admitted in
          let step = deleted_step t a.adds a.dels c.args.state_box c.each.wider w.admit-wider.result c.args.marks.now c.each.marks w.admit-wider.new.marks i known
          c.each.invariant.spread c.each.invariant.deleted w.admit-wider.ensures.spread (or_right _ _ this) in
          rw (w.wider-is, w.marks-is) (record { spread = step.0; deleted = step.1 })
      | else-not-is_listed w ↦
          let listed : list_any (λ g. g == get_or a.dels i 0) a.adds ≡ true =
          rw (c.as_slice-adds.ensures, c.as_slice-fact-items.ensures) at (sym c.is_listed.ensures ∙ w.if-not-is_listed.false) in
          let step = deleted_step t a.adds a.dels c.args.state_box c.each.wider c.each.wider c.args.marks.now c.each.marks c.each.marks i known
          c.each.invariant.spread c.each.invariant.deleted (spread_same t c.each.wider c.each.marks c.each.invariant.spread.grown.a_box) (or_left _ _ listed) in
          rw (w.wider-is, w.marks-is) (record { spread = step.0; deleted = step.1 })
    ]
