use Rattle.std.proofs.Common.{ℕ, List, [], ◌∷◌, ◌++◌, ap, ◌∙◌}
use Rattle.std.specs.Prelude.{flat_map}
use Rattle.static_facts.specs.Atoms.{object_text}
use Rattle.bound_actions.proofs.Spelling.{action_spelled}
use Rattle.bound_actions.proofs.texts.action_text.Goals as goal

pub returns : goal.returns
returns c =
    let p = c.args.checked.now in
    let opened = c.in_ok-push.ensures.items ∙ ap (λ (xs : List ℕ). xs ++ 40 ∷ []) c.new-text.ensures.items in
    let headed = c.in_ok-extend_from_slice.ensures.items ∙ ap (λ (xs : List ℕ). xs ++ c.as_slice.result.now) opened ∙ ap (λ (xs : List ℕ). (40 ∷ []) ++ xs) c.as_slice.ensures in
    let filled = c.in_ok-push_objects.ensures ∙ ap (λ (xs : List ℕ). xs ++ flat_map (λ o. 32 ∷ object_text p o) c.args.objects.now) headed in
    c.from_vec.ensures ∙ c.in_ok-push-2.ensures.items ∙ ap (λ (xs : List ℕ). xs ++ 41 ∷ []) filled ∙ action_spelled p c.args.schema.now c.args.objects.now
