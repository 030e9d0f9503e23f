-- Of a tree without faults all effects are kept.
use Rattle.std.proofs.Common.{◌≡◌, ℕ, ◌≤◌, true, false, List, [], ◌∷◌, ◌++◌, Option, Some, None, All, map, refl, sym, ap, ap₂, subst, ◌∙◌, arith}
use Rattle.std.specs.Prelude.{filter_map, flat_map, nat_lt, not, option_map}
use Rattle.std.proofs.lemmas.Bool.Decides.{nat_tests}
use Rattle.std.proofs.lemmas.List.{map-append}
use Rattle.std.proofs.lemmas.List.Elements.{All-nil, All-cons, All-head, All-tail, filter_map-append}
use Rattle.sexp_text.specs.declared.trees.Tree.{Tree, Tree-F, ind-Tree, map-Tree, roll-Tree}
use Rattle.sexp_text.specs.declared.trees.Tree.TheVariants as trees
use Rattle.pddl_terms.specs.declared.names.Atom.{Atom}
use Rattle.pddl_terms.specs.declared.expressions.Expr.{Expr}
use Rattle.pddl_terms.specs.declared.actions.Assign.{Assign}
use Rattle.pddl_terms.specs.declared.actions.Effect.{Effect}
use Rattle.pddl_terms.specs.declared.actions.Effect.TheVariants as effect
use Rattle.pddl_terms.specs.Heights.{expression_height}
use Rattle.pddl_actions.specs.declared.effects.Kind.{Kind}
use Rattle.pddl_actions.specs.declared.effects.Kind.TheVariants as kind
use Rattle.pddl_trees.specs.Words.{word_in}
use Rattle.pddl_trees.specs.Forms.{Effects, Form, Parsed, all_of, both, missing, shape_at, sound}
use Rattle.pddl_trees.specs.Atoms.{atom_of}
use Rattle.pddl_trees.specs.Effects.{change, deletion, effects_of}
use Rattle.pddl_trees.specs.Trees.{form_of, forms_of, leaf_form, list_form}
use Rattle.pddl_actions.specs.Kept.{fitting, is_low, kept_of}
use Rattle.pddl_actions.specs.internal.EffectSteps.{kind_of, kind_said}
use Rattle.pddl_actions.proofs.Effecting.{said_by_kind}
use Rattle.pddl_trees.proofs.Trees.{form_of-Leaf, form_of-List}
use Rattle.pddl_expressions.proofs.Soundness.{IsSound, IsThere, atom_there, no_back, no_front, parts_none, tree_sound}

-- all of these single effects are there and none is too high
abbrev AreKept : List (ℕ × Option Effect) → Type 0
AreKept found = all_of (map (λ f. f.1) found) ≡ Some (kept_of found)

one_kept : (at : ℕ) (v : Option Effect) (x : Effect) → v ≡ Some x → is_low x ≡ true → AreKept ((at, v) ∷ [])
one_kept at v x e low =
    ap (λ (w : Option Effect). all_of (w ∷ [])) e ∙ ap Some (sym (kept ∙ kept_one))
  where
    kept : kept_of ((at, v) ∷ []) ≡ kept_of ((at, Some x) ∷ [])
    kept = ap (λ (w : Option Effect). kept_of ((at, w) ∷ [])) e

    kept_one : kept_of ((at, Some x) ∷ []) ≡ x ∷ []
    kept_one = rw low refl

all_joined : (vs ws : List (Option Effect)) → all_of (vs ++ ws) ≡ both (λ xs ys. xs ++ ys) (all_of vs) (all_of ws)
all_joined [] ws = same (all_of ws)
  where
    same : (v : Option (List Effect)) → v ≡ option_map (λ ys. [] ++ ys) v
    same None = refl
    same (Some ys) = refl
all_joined (None ∷ vs) ws = refl
all_joined (Some x ∷ vs) ws = ap (option_map (λ (ys : List Effect). x ∷ ys)) (all_joined vs ws) ∙ moved (all_of vs) (all_of ws)
  where
    moved : (v w : Option (List Effect)) → option_map (λ (ys : List Effect). x ∷ ys) (both (λ xs ys. xs ++ ys) v w) ≡ both (λ xs ys. xs ++ ys) (option_map (λ (ys : List Effect). x ∷ ys) v) w
    moved None w = refl
    moved (Some xs) None = refl
    moved (Some xs) (Some ys) = refl

kept_joined : (fs gs : List (ℕ × Option Effect)) → AreKept fs → AreKept gs → AreKept (fs ++ gs)
kept_joined fs gs f g =
    ap all_of (map-append (λ (h : ℕ × Option Effect). h.1) fs gs)
    ∙ all_joined (map (λ (h : ℕ × Option Effect). h.1) fs) (map (λ (h : ℕ × Option Effect). h.1) gs)
    ∙ ap₂ (both (λ (xs ys : List Effect). xs ++ ys)) f g
    ∙ ap Some (sym (filter_map-append (λ (h : ℕ × Option Effect). fitting h.1) fs gs))

-- a form that says an atom, an expression and a condition, and all of whose effects are kept
record HasKept (t : Form) : Type 0 where
  sound : IsSound t
  effects : t.effects.faults ≡ [] → AreKept t.effects.found

all_kept : (ts : List Form) → All HasKept ts → flat_map (λ (t : Form). t.effects.faults) ts ≡ [] → AreKept (flat_map (λ (t : Form). t.effects.found) ts)
all_kept [] all none = refl
all_kept (t ∷ ts) all none =
    let first = All-head HasKept t ts all in
    kept_joined t.effects.found (flat_map (λ (u : Form). u.effects.found) ts)
    (first.effects (no_front t.effects.faults (flat_map (λ (u : Form). u.effects.faults) ts) none))
    (all_kept ts (All-tail HasKept t ts all) (no_back t.effects.faults (flat_map (λ (u : Form). u.effects.faults) ts) none))

deletion_kept : (at : ℕ) (ts : List Form) → All HasKept ts → (deletion at ts).faults ≡ [] → AreKept (deletion at ts).found
deletion_kept at [] all none = cc
deletion_kept at (t ∷ []) all none =
    let parts = parts_none (t.atom.faults ++ []) [] [] none in
    let first = All-head HasKept t [] all in
    let a = first.sound.atom (no_front t.atom.faults [] parts.0) in
    one_kept at (option_map effect.Del t.atom.value) (effect.Del a.0) (ap (option_map effect.Del) a.1) refl
deletion_kept at (t ∷ u ∷ us) all none =
    let parts = parts_none (t.atom.faults ++ []) (missing at 1 (t ∷ u ∷ us)) (shape_at u.at ∷ []) none in
    cc parts.2

change_kept : (at : ℕ) (how : Assign) (ts : List Form) → All HasKept ts → (change at how ts).faults ≡ [] → AreKept (change at how ts).found
change_kept at how [] all none = cc
change_kept at how (t ∷ []) all none =
    let parts = parts_none ((t.atom.faults ++ []) ++ []) (shape_at at ∷ []) [] none in
    cc parts.1
change_kept at how (t ∷ u ∷ []) all none =
    let parts = parts_none ((t.atom.faults ++ []) ++ (u.expr.faults ++ [])) [] [] none in
    let first = All-head HasKept t (u ∷ []) all in
    let second = All-head HasKept u [] (All-tail HasKept t (u ∷ []) all) in
    let a = first.sound.atom (no_front t.atom.faults [] (no_front (t.atom.faults ++ []) (u.expr.faults ++ []) parts.0)) in
    let e = second.sound.expr (no_front u.expr.faults [] (no_back (t.atom.faults ++ []) (u.expr.faults ++ []) parts.0)) in
    one_kept at (both (effect.Num how) t.atom.value u.expr.value) (effect.Num how a.0 e.0) (ap₂ (both (effect.Num how)) a.1 e.1) (low_test e.0 e.2)
  where
    low_test : (x : Expr) → expression_height x ≤ 400 → not (nat_lt 400 (expression_height x)) ≡ true
    low_test x low =
        let test : nat_lt 400 (expression_height x) ≡ false = grind (arith, nat_tests) in
        ap not test
change_kept at how (t ∷ u ∷ v ∷ vs) all none =
    let parts = parts_none ((t.atom.faults ++ []) ++ (u.expr.faults ++ [])) (missing at 2 (t ∷ u ∷ v ∷ vs)) (shape_at v.at ∷ []) none in
    cc parts.2

kind_kept : (at : ℕ) (k : Kind) (ts : List Form) (a : Parsed Atom) → All HasKept ts → (a.faults ≡ [] → IsThere a.value) → (kind_said at k ts a).faults ≡ [] → AreKept (kind_said at k ts a).found
kind_kept at kind.All ts a all there none = all_kept ts all none
kind_kept at kind.Deletion ts a all there none = deletion_kept at ts all none
kind_kept at (kind.Change how) ts a all there none = change_kept at how ts all none
kind_kept at kind.Addition ts a all there none =
    let x = there none in
    one_kept at (option_map effect.Add a.value) (effect.Add x.0) (ap (option_map effect.Add) x.1) refl

effects_kept : (at : ℕ) (ts : List Form) (a : Parsed Atom) → All HasKept ts → (a.faults ≡ [] → IsThere a.value) → (effects_of at ts a).faults ≡ [] → AreKept (effects_of at ts a).found
effects_kept at [] a all there none = refl
effects_kept at (t ∷ ts) a all there none =
    let said = said_by_kind at t.word ts a in
    subst (λ (e : Effects). AreKept e.found) (sym said)
    (kind_kept at (kind_of t.word) ts a (All-tail HasKept t ts all) there (ap (λ (e : Effects). e.faults) (sym said) ∙ none))

-- ---- trees

leaf_kept : (at : ℕ) (w : List ℕ) → IsSound (leaf_form at w) → HasKept (leaf_form at w)
leaf_kept at w sound = record { sound = sound; effects = λ none. cc }

list_kept : (at : ℕ) (ts : List Form) → IsSound (list_form at ts) → All HasKept ts → HasKept (list_form at ts)
list_kept at ts sound all = record { sound = sound; effects = effects_kept at ts (atom_of true at ts) all (atom_there at ts) }

All-beside : (text : List ℕ) → (es : List ((t : Tree) × HasKept (form_of text t))) → All HasKept (forms_of text (map (λ e. e.0) es))
All-beside text [] = All-nil HasKept
All-beside text (e ∷ es) = All-cons HasKept (form_of text e.0) (forms_of text (map (λ e. e.0) es)) e.1 (All-beside text es)

layer_kept : (text : List ℕ) (y : Tree-F ((t : Tree) × HasKept (form_of text t))) → HasKept (form_of text (roll-Tree (map-Tree _ _ (λ p. p.0) y)))
layer_kept text (Tree-F.Leaf span) =
    subst (λ (t : Tree). HasKept (form_of text t)) (sym (trees.rolls-Leaf span))
    (subst HasKept (sym (form_of-Leaf text span)) (leaf_kept span.from (word_in text span) (subst IsSound (form_of-Leaf text span) (tree_sound text (trees.Leaf span)))))
layer_kept text (Tree-F.List span es) =
    let ts = map (λ (e : (t : Tree) × HasKept (form_of text t)). e.0) es in
    subst (λ (t : Tree). HasKept (form_of text t)) (sym (trees.rolls-List span ts))
    (subst HasKept (sym (form_of-List text span ts))
    (list_kept span.from (forms_of text ts) (subst IsSound (form_of-List text span ts) (tree_sound text (trees.List span ts))) (All-beside text es)))

tree_kept : (text : List ℕ) (t : Tree) → HasKept (form_of text t)
tree_kept text = ind-Tree (λ t. HasKept (form_of text t)) (λ x y is. subst (λ (z : Tree-F Tree). HasKept (form_of text (roll-Tree z))) is (layer_kept text y))

some_front : (x : Effect) (rest : Option (List Effect)) (xs : List Effect) → option_map (λ (ys : List Effect). x ∷ ys) rest ≡ Some xs → (ys : List Effect) × (rest ≡ Some ys) × (x ∷ ys ≡ xs)
some_front x None xs e = cc
some_front x (Some ys) xs e = (ys, refl, cc)

all_values : (vs : List (Option Effect)) (xs : List Effect) → all_of vs ≡ Some xs → xs ≡ filter_map (λ (v : Option Effect). v) vs
all_values [] xs e = cc
all_values (None ∷ vs) xs e = cc
all_values (Some x ∷ vs) xs e =
    let s = some_front x (all_of vs) xs e in
    sym s.2 ∙ ap (λ (ys : List Effect). x ∷ ys) (all_values vs s.0 s.1)

values_of : (fs : List (ℕ × Option Effect)) → filter_map (λ (v : Option Effect). v) (map (λ (f : ℕ × Option Effect). f.1) fs) ≡ filter_map (λ (f : ℕ × Option Effect). f.1) fs
values_of [] = refl
values_of ((at, None) ∷ fs) = values_of fs
values_of ((at, Some x) ∷ fs) = ap (λ (ys : List Effect). x ∷ ys) (values_of fs)

all_there : (fs : List (ℕ × Option Effect)) (xs : List Effect) → all_of (map (λ (f : ℕ × Option Effect). f.1) fs) ≡ Some xs → xs ≡ filter_map (λ (f : ℕ × Option Effect). f.1) fs
all_there fs xs e = all_values (map (λ (f : ℕ × Option Effect). f.1) fs) xs e ∙ values_of fs

-- its effects are all kept
pub whole_effects : (text : List ℕ) (t : Tree) → (form_of text t).effects.faults ≡ [] → kept_of (form_of text t).effects.found ≡ filter_map (λ (f : ℕ × Option Effect). f.1) (form_of text t).effects.found
whole_effects text t none = all_there (form_of text t).effects.found (kept_of (form_of text t).effects.found) ((tree_kept text t).effects none)
