use Rattle.std.proofs.Common.{ℕ, List, [], ◌∷◌, ◌++◌, ap, ◌∙◌}
use Rattle.std.specs.Prelude.{flat_map}
use Rattle.pddl_terms.specs.declared.names.Arg.{Arg}
use Rattle.pddl_types.specs.Pairs.{written_text}
use Rattle.folded_terms.proofs.Spelling.{text_by_parts}
use Rattle.folded_terms.proofs.texts.written_text_of.Goals as goal

pub returns : goal.returns
returns c =
    let opened = c.in_ok-push.ensures.items ∙ ap (λ (xs : List ℕ). xs ++ 40 ∷ []) c.new-text.ensures.items in
    let headed = c.in_ok-extend_from_slice.ensures.items ∙ ap (λ (xs : List ℕ). xs ++ c.as_slice.result.now) opened ∙ ap (λ (xs : List ℕ). (40 ∷ []) ++ xs) c.as_slice.ensures in
    let filled = c.in_ok-push_names.ensures ∙ ap (λ (xs : List ℕ). xs ++ flat_map (λ a. 32 ∷ written_text a) c.as_slice-2.result.now) headed
    ∙ ap (λ (bs : List Arg). 40 ∷ (c.args.atom.now.head.text ++ flat_map (λ a. 32 ∷ written_text a) bs)) c.as_slice-2.ensures in
    c.from_vec.ensures ∙ c.in_ok-push-2.ensures.items ∙ ap (λ (xs : List ℕ). xs ++ 41 ∷ []) filled
    ∙ text_by_parts c.args.atom.now
