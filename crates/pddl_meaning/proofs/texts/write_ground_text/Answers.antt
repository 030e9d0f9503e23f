use Rattle.std.proofs.Common.{ℕ, List, [], ◌∷◌, ◌++◌, ap, ◌∙◌}
use Rattle.std.specs.Prelude.{flat_map}
use Rattle.pddl_terms.specs.declared.names.Arg.{Arg}
use Rattle.pddl_terms.specs.Texts.{argument_text}
use Rattle.pddl_meaning.proofs.Spelled.{spelled}
use Rattle.pddl_meaning.proofs.texts.write_ground_text.Goals as goal

pub returns : goal.returns
returns c =
    let opened = c.in_ok-push.ensures.items ∙ ap (λ (xs : List ℕ). xs ++ 40 ∷ []) c.clear.ensures.items in
    let headed = c.in_ok-extend_from_slice.ensures.items ∙ ap (λ (xs : List ℕ). xs ++ c.as_slice.result.now) opened ∙ ap (λ (xs : List ℕ). (40 ∷ []) ++ xs) c.as_slice.ensures in
    let filled = c.in_ok-append_arguments.ensures ∙ ap (λ (xs : List ℕ). xs ++ flat_map (λ a. 32 ∷ argument_text c.args.binding.now.params.now c.args.binding.now.args.now a) c.as_slice-2.result.now) headed
    ∙ ap (λ (bs : List Arg). 40 ∷ (c.args.atom.now.head.text ++ flat_map (λ a. 32 ∷ argument_text c.args.binding.now.params.now c.args.binding.now.args.now a) bs)) c.as_slice-2.ensures in
    c.in_ok-push-2.ensures.items ∙ ap (λ (xs : List ℕ). xs ++ 41 ∷ []) filled
    ∙ spelled c.args.binding.now.params.now c.args.binding.now.args.now c.args.atom.now
