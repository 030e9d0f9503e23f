use Rattle.std.proofs.Common.{◌≡◌, ℕ, ◌<◌, ◌∙◌, ap, sym, Some, List, get_or, slice_get, length}
use Rattle.std.proofs.lemmas.Option.{slice_get-get_or}
use Rattle.ground_task.specs.declared.raw.Change.{Change}
use Rattle.ground_task.specs.declared.raw.Ground.{Ground}
use Rattle.ground_task.specs.declared.raw.RawTask.{RawTask}
use Rattle.box_model.proofs.CapLemmas.{effect_cap}
use Rattle.box_model.proofs.caps.cap_of.Goals as goal

read_at : {X : Type 0} (xs ys : List X) (i : ℕ) (x : X) → ys ≡ xs → i < length xs → x ≡ get_or ys i x → slice_get xs i ≡ Some x
read_at xs ys i x same known is = slice_get-get_or xs i x known ∙ ap Some (sym (is ∙ ap (λ l. get_or l i x) same))

pub returns : goal.returns
returns c =
    let t = c.args.task.now in
    let a : Ground = c.index-as_slice-action.result in
    let e : ℕ × Change = c.index-as_slice-effect.result in
    let a_at : slice_get t.raw.actions c.args.action ≡ Some a =
    read_at t.raw.actions _ c.args.action a (c.as_slice.ensures ∙ ap (λ (r : RawTask). r.actions) c.raw.ensures.value) c.requires.known_action c.index-as_slice-action.is in
    let e_at : slice_get a.nums c.args.effect ≡ Some e =
    read_at a.nums _ c.args.effect e c.as_slice-2.ensures (c.requires.known_effect a a_at) c.index-as_slice-effect.is in
    effect_cap t c.args.action c.args.effect a e c.cap_under.result a_at e_at c.cap_under.ensures
