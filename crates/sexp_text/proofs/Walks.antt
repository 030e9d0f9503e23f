-- Induction over trees, and the depth through their marks.
use Rattle.std.proofs.Common.{◌≡◌, ℕ, zero, suc, ◌+◌, ◌-◌, ◌≤◌, cond, List, [], ◌∷◌, ◌++◌, length, map, All, Option, Some, None, refl, sym, ap, subst, ◌∙◌, append_assoc, arith}
use Rattle.std.specs.Option.{option_and_then}
use Rattle.std.proofs.lemmas.Option.{same_Some}
use Rattle.std.proofs.lemmas.List.{append-nil}
use Rattle.std.proofs.lemmas.List.Elements.{All-cons, All-nil, All-head, All-tail}
use Rattle.sexp_text.specs.declared.marks.Mark.{Mark}
use Rattle.sexp_text.specs.declared.marks.Mark.TheVariants as marks
use Rattle.sexp_text.specs.declared.marks.Span.{Span}
use Rattle.sexp_text.specs.declared.marks.Marked.{Marked}
use Rattle.sexp_text.specs.declared.trees.Tree.{Tree, Tree-F, ind-Tree, map-Tree, roll-Tree}
use Rattle.sexp_text.specs.declared.trees.Tree.TheVariants as trees
use Rattle.sexp_text.specs.Trees.{marked, is_opening, is_closing, marks_of, marks_of_all}
use Rattle.sexp_text.proofs.TreeMarks.{open_marks, marks_of-Leaf, marks_of-List}
use Rattle.sexp_text.proofs.Depths.{openings, closings, through_some, length-filter}

-- what holds of each item stands beside it
All-beside : {X : Type 0} (P : X → Type 0) → (es : List ((x : X) × P x)) → All P (map (λ e. e.0) es)
All-beside P [] = All-nil P
All-beside P (e ∷ es) = All-cons P e.0 (map (λ e. e.0) es) e.1 (All-beside P es)

induct_layer : (P : Tree → Type 0) → ((span : Span) → P (trees.Leaf span)) → ((span : Span) (ts : List Tree) → All P ts → P (trees.List span ts))
    → (y : Tree-F ((t : Tree) × P t)) → P (roll-Tree (map-Tree _ _ (λ p. p.0) y))
induct_layer P leaf list (Tree-F.Leaf span) = subst P (sym (trees.rolls-Leaf span)) (leaf span)
induct_layer P leaf list (Tree-F.List span es) =
    subst P (sym (trees.rolls-List span (map (λ e. e.0) es))) (list span (map (λ e. e.0) es) (All-beside P es))

-- induction over trees, one case for each variant
pub induct_tree : (P : Tree → Type 0) → ((span : Span) → P (trees.Leaf span)) → ((span : Span) (ts : List Tree) → All P ts → P (trees.List span ts))
    → (t : Tree) → P t
induct_tree P leaf list =
    ind-Tree P (λ x y is. subst (λ (z : Tree-F Tree). P (roll-Tree z)) is (induct_layer P leaf list y))

pub each_tree : (P : Tree → Type 0) → ((t : Tree) → P t) → (ts : List Tree) → All P ts
each_tree P each [] = All-nil P
each_tree P each (t ∷ ts) = All-cons P t ts (each t) (each_tree P each ts)

-- the depth without a limit: a closing bracket needs an open one
abbrev pub level_after : Mark → ℕ → Option ℕ
level_after marks.Opening level = Some (suc level)
level_after marks.Closing zero = None
level_after marks.Closing (suc level) = Some level
level_after marks.Leaf level = Some level

abbrev pub level_through : ℕ → List Marked → Option ℕ
level_through level [] = Some level
level_through level (m ∷ ms) = option_and_then (λ next. level_through next ms) (level_after m.mark level)

-- a tree leaves the level as it was
abbrev pub KeepsLevel : Tree → Type 0
KeepsLevel t = (level : ℕ) (ms : List Marked) → level_through level (marks_of t ++ ms) ≡ level_through level ms

all_keep_level : (ts : List Tree) → All KeepsLevel ts → (level : ℕ) (ms : List Marked) → level_through level (marks_of_all ts ++ ms) ≡ level_through level ms
all_keep_level [] h level ms = refl
all_keep_level (t ∷ ts) h level ms =
    ap (level_through level) (append_assoc (marks_of t) (marks_of_all ts) ms)
    ∙ All-head KeepsLevel t ts h level (marks_of_all ts ++ ms) ∙ all_keep_level ts (All-tail KeepsLevel t ts h) level ms

pub keeps_level : (t : Tree) → KeepsLevel t
keeps_level = induct_tree KeepsLevel leaf list
  where
    leaf : (span : Span) → KeepsLevel (trees.Leaf span)
    leaf span level ms = ap (λ (ns : List Marked). level_through level (ns ++ ms)) (marks_of-Leaf span)

    list : (span : Span) (ts : List Tree) → All KeepsLevel ts → KeepsLevel (trees.List span ts)
    list span ts h level ms =
        let last : Marked = marked marks.Closing (span.to - 1) span.to in
        ap (λ (ns : List Marked). level_through level (ns ++ ms)) (marks_of-List span ts)
        ∙ ap (level_through (suc level)) (append_assoc (marks_of_all ts) (last ∷ []) ms)
        ∙ all_keep_level ts h (suc level) (last ∷ ms)

pub trees_keep_level : (ts : List Tree) (level : ℕ) (ms : List Marked) → level_through level (marks_of_all ts ++ ms) ≡ level_through level ms
trees_keep_level ts = all_keep_level ts (each_tree KeepsLevel keeps_level ts)

pub level-append : (before rest : List Marked) (level last : ℕ) → level_through level (before ++ rest) ≡ Some last
    → (between : ℕ) × (level_through level before ≡ Some between)
level-append [] rest level last is = (level, refl)
level-append (m ∷ ms) rest level last is =
    let first = through_some (level_after m.mark level) (λ next. level_through next (ms ++ rest)) last is in
    let more = level-append ms rest first.0 last first.2 in
    (more.0, ap (option_and_then (λ next. level_through next ms)) first.1 ∙ more.1)

level_counts : (mark : Mark) (level next : ℕ) → level_after mark level ≡ Some next → level + cond (is_opening mark) 1 0 ≡ next + cond (is_closing mark) 1 0
level_counts marks.Opening level next is =
    let same : suc level ≡ next = same_Some _ _ is in
    omega arith
level_counts marks.Closing zero next is = absurd cc
level_counts marks.Closing (suc level) next is =
    let same : level ≡ next = same_Some _ _ is in
    omega arith
level_counts marks.Leaf level next is =
    let same : level ≡ next = same_Some _ _ is in
    omega arith

pub levels_count : (ms : List Marked) (level last : ℕ) → level_through level ms ≡ Some last → level + openings ms ≡ last + closings ms
levels_count [] level last is =
    let same : level ≡ last = same_Some _ _ is in
    omega arith
levels_count (m ∷ ms) level last is =
    let first = through_some (level_after m.mark level) (λ next. level_through next ms) last is in
    let one = level_counts m.mark level first.0 first.1 in
    let more = levels_count ms first.0 last first.2 in
    let o = length-filter (λ n. is_opening n.mark) m ms in
    let c = length-filter (λ n. is_closing n.mark) m ms in
    omega arith

-- trees have as many closing brackets as opening ones
pub trees_balance : (ts : List Tree) → openings (marks_of_all ts) ≡ closings (marks_of_all ts)
trees_balance ts =
    let level = ap (level_through 0) (sym (append-nil (marks_of_all ts))) ∙ trees_keep_level ts 0 [] in
    let counts = levels_count (marks_of_all ts) 0 0 level in
    omega arith

-- ---- brackets that are open

pub open_first : {X : Type 0} (before : X → List Tree) (bracket : X → ℕ) (o : X) (os : List X) (ts : List Tree)
    → open_marks before bracket (o ∷ os) ++ marks_of_all ts
    ≡ marks_of_all (before o) ++ marked marks.Opening (bracket o) (bracket o + 1) ∷ (open_marks before bracket os ++ marks_of_all ts)
open_first before bracket o os ts =
    let first : Marked = marked marks.Opening (bracket o) (bracket o + 1) in
    append_assoc (marks_of_all (before o) ++ first ∷ []) (open_marks before bracket os) (marks_of_all ts)
    ∙ append_assoc (marks_of_all (before o)) (first ∷ []) (open_marks before bracket os ++ marks_of_all ts)

-- behind a bracket that is open, the level does not fall below it
open_level : {X : Type 0} (before : X → List Tree) (bracket : X → ℕ) (os : List X) (ts : List Tree) (level : ℕ)
    → level_through level (open_marks before bracket os ++ marks_of_all ts) ≡ Some (level + length os)
open_level before bracket [] ts level =
    let place : level ≡ level + 0 = omega arith in
    ap (level_through level) (sym (append-nil (marks_of_all ts))) ∙ trees_keep_level ts level [] ∙ ap (λ (n : ℕ). Some n) place
open_level before bracket (o ∷ os) ts level =
    let first : Marked = marked marks.Opening (bracket o) (bracket o + 1) in
    let rest = open_marks before bracket os ++ marks_of_all ts in
    let place : suc level + length os ≡ level + suc (length os) = omega arith in
    ap (level_through level) (open_first before bracket o os ts)
    ∙ trees_keep_level (before o) level (first ∷ rest) ∙ open_level before bracket os ts (suc level) ∙ ap (λ (n : ℕ). Some n) place

pub front_level : {X : Type 0} (before : X → List Tree) (bracket : X → ℕ) (os : List X) (ts : List Tree) (front more : List Marked)
    → open_marks before bracket os ++ marks_of_all ts ≡ front ++ more → closings front ≤ openings front
front_level before bracket os ts front more split =
    let part = level-append front more 0 (0 + length os) (ap (level_through 0) (sym split) ∙ open_level before bracket os ts 0) in
    let counts = levels_count front 0 part.0 part.1 in
    omega arith
