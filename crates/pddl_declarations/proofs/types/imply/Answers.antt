use Rattle.std.proofs.Common.{◌≡◌, true, false, ℕ, List, [], ◌∷◌, ◌++◌, map, not, Bor, sym, ap, ◌∙◌, codes}
use Rattle.std.specs.Prelude.{bytes_eq, if◌then◌else◌}
use Rattle.pddl_trees.specs.Words.{is_among}
use Rattle.pddl_declarations.proofs.Known.{implied_more}
use Rattle.pddl_declarations.proofs.types.imply.Goals as goal

pub returns : goal.returns
returns c = λ ts.
    let ks : List (List ℕ) = map (λ (w : Bor (List ℕ)). w.now) c.args.known.now.keys in
    let now : List (List ℕ) = map (λ (w : Bor (List ℕ)). w.now) c.add.new.known.keys in
    let t = c.args.one.now in
    let same : c.as_slice.result.now ≡ t.kind.text = c.as_slice.ensures in
    let other : bytes_eq t.kind.text (codes "object") ≡ false = sym c.is_text.ensures ∙ c.if-is_text.false in
    let unknown : not (is_among t.kind.text ks) ≡ true =
    ap (λ (w : List ℕ). not (is_among w ks)) (sym same) ∙ sym c.in_ok-add.ensures.added ∙ c.if-not-branch.false in
    let words : now ≡ (if is_among t.kind.text ks then ks else ks ++ t.kind.text ∷ []) =
    c.in_ok-add.ensures.words ∙ ap (λ (w : List ℕ). if is_among w ks then ks else ks ++ w ∷ []) same in
    implied_more t ks now c.args.implied.now.items c.push.new.self.items ts c.in_ok-copy.field-0 c.in_ok-name.field-0 unknown other words c.in_ok-copy.ensures c.in_ok-name.ensures c.in_ok-push.ensures.items
