-- A typed list is read tree by tree.
use Rattle.std.proofs.Common.{◌≡◌, ℕ, ◌+◌, true, false, List, [], ◌∷◌, ◌++◌, codes, refl, ap, ◌∙◌, add-one, drop-cons, map, get_or, drop, length, ◌<◌}
use Rattle.pddl_terms.specs.declared.names.Name.{Name}
use Rattle.sexp_text.specs.declared.trees.Tree.{Tree}
use Rattle.pddl_trees.specs.Forms.{Form, shape_at}
use Rattle.pddl_trees.specs.Trees.{form_of, forms_of}
use Rattle.pddl_trees.specs.TypedLists.{Kind, after, fits_kind, past_limit, typed_from, word_or_empty}
use Rattle.pddl_trees.specs.Names.{is_word, named_at}

-- a list from a place on is the item there and what stands behind it
pub drop_next : {A : Type 0} (xs : List A) (i : ℕ) (x : A) → i < length xs → x ≡ get_or xs i x → drop i xs ≡ x ∷ drop (i + 1) xs
drop_next xs i x within is = drop-cons xs i x within ∙ rw (add-one, ← is) refl

pub step_name : (kind : Kind) (at seen : ℕ) (waiting : List Name) (t : Form) (ts : List Form) → is_word (codes "-") t ≡ false → fits_kind kind t ≡ true
    → typed_from kind at seen false waiting (t ∷ ts) ≡ after [] (past_limit kind seen t.at) (typed_from kind at (seen + 1) false (waiting ++ named_at t.at (word_or_empty t) ∷ []) ts)
unfolding typed_from
step_name kind at seen waiting t ts dash fits = rw (dash, fits, add-one) refl

pub step_other : (kind : Kind) (at seen : ℕ) (waiting : List Name) (t : Form) (ts : List Form) → is_word (codes "-") t ≡ false → fits_kind kind t ≡ false
    → typed_from kind at seen false waiting (t ∷ ts) ≡ after [] (shape_at t.at ∷ []) (typed_from kind at seen false waiting ts)
unfolding typed_from
step_other kind at seen waiting t ts dash fits = rw (dash, fits) refl

pub forms_next : (text : List ℕ) (ts : List Tree) (i : ℕ) (t : Tree) → i < length ts → t ≡ get_or ts i t → forms_of text (drop i ts) ≡ form_of text t ∷ forms_of text (drop (i + 1) ts)
forms_next text ts i t within is = ap (map (form_of text)) (drop_next ts i t within is)
