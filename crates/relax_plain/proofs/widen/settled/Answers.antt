use Rattle.std.proofs.Common.{◌≡◌, ◌∙◌, List, false, Some, get_or, slice_get, ap, subst, sym}
use Rattle.std.proofs.lemmas.Option.{slice_get-get_or}
use Rattle.ground_task.specs.declared.raw.Ground.{Ground}
use Rattle.ground_task.specs.declared.raw.RawTask.{RawTask}
use Rattle.box_model.proofs.CapLemmas.{some_same}
use Rattle.box_model.specs.Demands.{is_unmet}
use Rattle.relax_plain.specs.Spread.{IsApplied}
use Rattle.relax_plain.proofs.Settling.{all_met, applied_wider}
use Rattle.relax_plain.proofs.Spreads.{spread_trans}
use Rattle.relax_plain.proofs.widen.settled.Goals as goal

pub with_deleted-deleted-requires-clause-applied : goal.with_deleted-deleted-requires-clause-applied
with_deleted-deleted-requires-clause-applied c =
    let t = c.args.task.now in
    let a : Ground = c.index-as_slice-number.result in
    let actions : c.as_slice.result.now ≡ t.raw.actions = c.as_slice.ensures ∙ ap (λ (r : RawTask). r.actions) c.raw.ensures.value in
    let at : slice_get t.raw.actions c.args.number ≡ Some a =
    slice_get-get_or t.raw.actions c.args.number a c.requires.known ∙ ap Some (sym (c.index-as_slice-number.is ∙ ap (λ (xs : List Ground). get_or xs c.args.number a) actions)) in
    let applied : IsApplied t c.args.number a c.args.state_box = record { is_action = at; may_hold = sym c.may_hold.ensures ∙ c.if-not-may_hold.false } in
    let added = c.with_added-added.ensures.spread.grown in
    applied_wider t c.args.number a c.args.state_box c.with_added-added.result c.requires.a_box added.a_box added.wider applied

pub with_changes-requires-clause-applied : goal.with_changes-requires-clause-applied
with_changes-requires-clause-applied c =
    let t = c.args.task.now in
    let a : Ground = c.index-as_slice-number.result in
    let actions : c.as_slice.result.now ≡ t.raw.actions = c.as_slice.ensures ∙ ap (λ (r : RawTask). r.actions) c.raw.ensures.value in
    let at : slice_get t.raw.actions c.args.number ≡ Some a =
    slice_get-get_or t.raw.actions c.args.number a c.requires.known ∙ ap Some (sym (c.index-as_slice-number.is ∙ ap (λ (xs : List Ground). get_or xs c.args.number a) actions)) in
    let applied : IsApplied t c.args.number a c.args.state_box = record { is_action = at; may_hold = sym c.may_hold.ensures ∙ c.if-not-may_hold.false } in
    let added = c.with_added-added.ensures.spread.grown in
    let deleted = c.with_deleted-deleted.ensures.spread.grown in
    applied_wider t c.args.number a c.with_added-added.result c.with_deleted-deleted.result added.a_box deleted.a_box deleted.wider
    (applied_wider t c.args.number a c.args.state_box c.with_added-added.result c.requires.a_box added.a_box added.wider applied)

pub returns-clause-spread : goal.returns-clause-spread
returns-clause-spread c =
    let t = c.args.task.now in
    spread_trans t c.args.state_box c.with_deleted-deleted.result c.with_changes.result c.args.marks.now c.with_deleted-deleted.new.marks c.with_changes.new.marks
    (spread_trans t c.args.state_box c.with_added-added.result c.with_deleted-deleted.result c.args.marks.now c.with_added-added.new.marks c.with_deleted-deleted.new.marks
    c.with_added-added.ensures.spread c.with_deleted-deleted.ensures.spread) c.with_changes.ensures.spread

pub returns-clause-met : goal.returns-clause-met
returns-clause-met c = λ other there clean.
    let t = c.args.task.now in
    let a : Ground = c.index-as_slice-number.result in
    let actions : c.as_slice.result.now ≡ t.raw.actions = c.as_slice.ensures ∙ ap (λ (r : RawTask). r.actions) c.raw.ensures.value in
    let at : slice_get t.raw.actions c.args.number ≡ Some a =
    slice_get-get_or t.raw.actions c.args.number a c.requires.known ∙ ap Some (sym (c.index-as_slice-number.is ∙ ap (λ (xs : List Ground). get_or xs c.args.number a) actions)) in
    let same : a ≡ other = some_same a other (sym at ∙ there) in
    let added = c.with_added-added.ensures.spread.grown in
    let deleted = c.with_deleted-deleted.ensures.spread.grown in
    subst (λ (g : Ground). is_unmet t.places c.with_changes.result g ≡ false) same
    (all_met t a c.with_added-added.result c.with_deleted-deleted.result c.with_changes.result added.a_box deleted.a_box deleted.wider c.with_changes.ensures.spread.grown.wider
    c.with_added-added.ensures.added c.with_deleted-deleted.ensures.deleted (c.with_changes.ensures.changed clean))
