use Rattle.std.proofs.Common.{◌≡◌, ◌+◌, ℕ, List, [], ◌∷◌, ◌++◌, Bor, drop, map, sym, ap, ◌∙◌}
use Rattle.std.specs.Prelude.{if◌then◌else◌}
use Rattle.std.proofs.lemmas.List.{append-nil}
use Rattle.std.proofs.Math.ListN.{drop_of_length-le}
use Rattle.pddl_terms.specs.declared.names.Typed.{Typed}
use Rattle.pddl_trees.specs.Declarations.{names_of}
use Rattle.pddl_trees.specs.Words.{is_among}
use Rattle.pddl_declarations.proofs.Known.{known_more}
use Rattle.pddl_declarations.proofs.TypedSteps.{drop_next}
use Rattle.pddl_declarations.proofs.types.known_names.Goals as goal

pub each-preserved : goal.each-preserved
each-preserved c = λ word.
    let ks : List (List ℕ) = map (λ (w : Bor (List ℕ)). w.now) c.each.known.keys in
    let now : List (List ℕ) = map (λ (w : Bor (List ℕ)). w.now) c.add.new.known.keys in
    let t = c.one-item.result in
    let rest : List (List ℕ) = names_of (drop (c.each.one-index + 1) c.args.types.now) in
    let next = drop_next c.args.types.now c.each.one-index t c.each-test.true c.one-item.is in
    let same : c.as_slice.result.now ≡ t.name.text = c.as_slice.ensures in
    let words : now ≡ (if is_among t.name.text ks then ks else ks ++ t.name.text ∷ []) =
    c.in_ok-add.ensures.words ∙ ap (λ (w : List ℕ). if is_among w ks then ks else ks ++ w ∷ []) same in
    known_more t.name.text ks now rest words word
    ∙ ap (λ (ts : List Typed). is_among word (ks ++ names_of ts)) (sym next)
    ∙ c.each.invariant word

pub returns : goal.returns
returns c = λ word.
    let ks : List (List ℕ) = map (λ (w : Bor (List ℕ)). w.now) c.each.known.keys in
    let none = drop_of_length-le c.args.types.now c.each-test.false in
    ap (is_among word) (sym (append-nil ks)) ∙ ap (λ (ts : List Typed). is_among word (ks ++ names_of ts)) (sym none) ∙ c.each.invariant word
