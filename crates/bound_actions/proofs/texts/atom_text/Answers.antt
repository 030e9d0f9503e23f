use Rattle.std.proofs.Common.{ℕ, List, [], ◌∷◌, ◌++◌, ap, ◌∙◌}
use Rattle.std.specs.Prelude.{flat_map}
use Rattle.pddl_terms.specs.declared.names.Arg.{Arg}
use Rattle.pddl_terms.specs.Texts.{argument_text}
use Rattle.static_facts.specs.Atoms.{names}
use Rattle.bound_actions.proofs.Spelling.{atom_spelled}
use Rattle.bound_actions.proofs.texts.atom_text.Goals as goal

pub returns : goal.returns
returns c =
    let params = c.args.bound.now.params.now in
    let args = names c.args.bound.now.checked.now c.args.bound.now.objects.now in
    let opened = c.in_ok-push.ensures.items ∙ ap (λ (xs : List ℕ). xs ++ 40 ∷ []) c.new-text.ensures.items in
    let headed = c.in_ok-extend_from_slice.ensures.items ∙ ap (λ (xs : List ℕ). xs ++ c.as_slice.result.now) opened ∙ ap (λ (xs : List ℕ). (40 ∷ []) ++ xs) c.as_slice.ensures in
    let filled = c.in_ok-push_arguments.ensures ∙ ap (λ (xs : List ℕ). xs ++ flat_map (λ a. 32 ∷ argument_text params args a) c.as_slice-2.result.now) headed
    ∙ ap (λ (bs : List Arg). 40 ∷ (c.args.atom.now.head.text ++ flat_map (λ a. 32 ∷ argument_text params args a) bs)) c.as_slice-2.ensures in
    c.from_vec.ensures ∙ c.in_ok-push-2.ensures.items ∙ ap (λ (xs : List ℕ). xs ++ 41 ∷ []) filled ∙ atom_spelled params args c.args.atom.now
