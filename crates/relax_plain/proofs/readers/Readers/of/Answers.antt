use Rattle.std.proofs.Common.{◌≡◌, ℕ, ◌<◌, ◌∙◌, List, [], Some, length, get_or, replicate, slice_get, ap, sym, subst, arith}
use Rattle.std.proofs.lemmas.Option.{slice_get-get_or}
use Rattle.ground_task.specs.declared.raw.Ground.{Ground}
use Rattle.ground_task.specs.declared.raw.RawTask.{RawTask}
use Rattle.relax_plain.specs.Reads.{AreReadersBelow}
use Rattle.relax_plain.proofs.ReaderLemmas.{readers_more, readers_start}
use Rattle.relax_plain.proofs.readers.Readers.of.Goals as goal

pub each-init : goal.each-init
each-init c =
    readers_start c.args.task.now c.in_ok-empty_lists.field-0.items c.in_ok-empty_lists-2.field-0.items
    (c.in_ok-empty_lists.ensures ∙ ap (λ (n : ℕ). replicate n []) (c.len.ensures ∙ ap (λ (r : RawTask). length r.facts) c.raw-raw.ensures.value))
    (c.in_ok-empty_lists-2.ensures ∙ ap (λ (n : ℕ). replicate n []) (c.len-2.ensures ∙ ap (λ (r : RawTask). length r.fluents) c.raw-raw.ensures.value))

pub each-preserved : goal.each-preserved
each-preserved c =
    let t = c.args.task.now in
    let a : Ground = c.index-actions-number.result in
    let n = c.each.number in
    let actions : c.as_slice-actions.result.now ≡ t.raw.actions = c.as_slice-actions.ensures ∙ ap (λ (r : RawTask). r.actions) c.raw-raw.ensures.value in
    let known : n < length t.raw.actions = subst (λ (xs : List Ground). n < length xs) actions c.each-test.true in
    let at : slice_get t.raw.actions n ≡ Some a =
    slice_get-get_or t.raw.actions n a known ∙ ap Some (sym (c.index-actions-number.is ∙ ap (λ (xs : List Ground). get_or xs n a) actions)) in
    readers_more t n a c.each.readers.facts.items c.each.readers.fluents.items c.note_action.new.self.facts.items c.note_action.new.self.fluents.items
    known at c.each.invariant c.in_ok-note_action.ensures.facts c.in_ok-note_action.ensures.fluents

pub returns : goal.returns
returns c =
    let t = c.args.task.now in
    let actions : c.as_slice-actions.result.now ≡ t.raw.actions = c.as_slice-actions.ensures ∙ ap (λ (r : RawTask). r.actions) c.raw-raw.ensures.value in
    let many : length c.as_slice-actions.result.now ≡ length t.raw.actions = ap length actions in
    subst (λ (n : ℕ). AreReadersBelow t n c.each.readers.facts.items c.each.readers.fluents.items) (omega (arith, many, c.each-test.false, c.each.auto.number-end)) c.each.invariant
