-- The marks of trees, and of the trees and brackets that were read.
use Rattle.std.proofs.Common.{◌≡◌, ℕ, ◌+◌, ◌-◌, List, [], ◌∷◌, ◌++◌, map, refl, sym, ap, ◌∙◌, append_assoc, arith}
use Rattle.std.specs.List.{flat_map}
use Rattle.std.proofs.lemmas.List.{append-nil}
use Rattle.std.proofs.lemmas.List.Concat.{flat_map-append}
use Rattle.sexp_text.specs.declared.marks.Mark.TheVariants as marks
use Rattle.sexp_text.specs.declared.marks.Span.{Span}
use Rattle.sexp_text.specs.declared.marks.Marked.{Marked}
use Rattle.sexp_text.specs.declared.trees.Tree.{Tree, Tree-F, fold-roll-Tree}
use Rattle.sexp_text.specs.declared.trees.Tree.TheVariants as trees
use Rattle.sexp_text.specs.declared.reading.Outer.{Outer}
use Rattle.sexp_text.specs.Trees.{marked, marks_layer, marks_of, marks_of_all}
use Rattle.sexp_text.specs.Open.{outer_marks}

all_of_each : (ts : List Tree) → flat_map (λ (ms : List Marked). ms) (map marks_of ts) ≡ marks_of_all ts
all_of_each [] = refl
all_of_each (t ∷ ts) = ap (λ (ms : List Marked). marks_of t ++ ms) (all_of_each ts)

pub marks_of-Leaf : (span : Span) → marks_of (trees.Leaf span) ≡ marked marks.Leaf span.from span.to ∷ []
marks_of-Leaf span = ap marks_of (sym (trees.rolls-Leaf span)) ∙ fold-roll-Tree (List Marked) marks_layer (Tree-F.Leaf span)

pub marks_of-List : (span : Span) (ts : List Tree) → marks_of (trees.List span ts)
    ≡ marked marks.Opening span.from (span.from + 1) ∷ (marks_of_all ts ++ marked marks.Closing (span.to - 1) span.to ∷ [])
marks_of-List span ts =
    ap marks_of (sym (trees.rolls-List span ts)) ∙ fold-roll-Tree (List Marked) marks_layer (Tree-F.List span ts)
    ∙ ap (λ (ms : List Marked). marked marks.Opening span.from (span.from + 1) ∷ (ms ++ marked marks.Closing (span.to - 1) span.to ∷ [])) (all_of_each ts)

regroup : (a b c : List Marked) (first last : Marked) → a ++ (b ++ ((first ∷ (c ++ last ∷ [])) ++ [])) ≡ ((a ++ ((b ++ first ∷ []) ++ [])) ++ c) ++ last ∷ []
regroup a b c first last = simp (append_assoc, append-nil)

-- the trees before each open bracket and the brackets, the outermost first
abbrev pub open_marks : {X : Type 0} → (X → List Tree) → (X → ℕ) → List X → List Marked
open_marks before bracket os = flat_map (λ o. marks_of_all (before o) ++ marked marks.Opening (bracket o) (bracket o + 1) ∷ []) os

-- a list that is closed, in the place of its bracket and its trees
pub closed_marks : {X : Type 0} (before : X → List Tree) (bracket : X → ℕ) (outer : List X) (o : X) (inner : List Tree) (to : ℕ)
    → open_marks before bracket outer ++ marks_of_all (before o ++ trees.List (record { from = bracket o; to = to }) inner ∷ [])
    ≡ (open_marks before bracket (outer ++ o ∷ []) ++ marks_of_all inner) ++ marked marks.Closing (to - 1) to ∷ []
closed_marks {X} before bracket outer o inner to =
    let span : Span = record { from = bracket o; to = to } in
    let a = open_marks before bracket outer in
    let first : Marked = marked marks.Opening (bracket o) (bracket o + 1) in
    let own : X → List Marked = λ x. marks_of_all (before x) ++ marked marks.Opening (bracket x) (bracket x + 1) ∷ [] in
    ap (λ (ms : List Marked). a ++ ms) (flat_map-append marks_of (before o) (trees.List span inner ∷ []))
    ∙ ap (λ (ms : List Marked). a ++ (marks_of_all (before o) ++ (ms ++ []))) (marks_of-List span inner)
    ∙ regroup a (marks_of_all (before o)) (marks_of_all inner) first (marked marks.Closing (to - 1) to)
    ∙ ap (λ (ms : List Marked). (ms ++ marks_of_all inner) ++ marked marks.Closing (to - 1) to ∷ []) (sym (flat_map-append own outer (o ∷ [])))

-- a bracket that is opened behind trees
pub opened_marks : {X : Type 0} (before : X → List Tree) (bracket : X → ℕ) (outer : List X) (o : X)
    → open_marks before bracket (outer ++ o ∷ []) ++ marks_of_all []
    ≡ (open_marks before bracket outer ++ marks_of_all (before o)) ++ marked marks.Opening (bracket o) (bracket o + 1) ∷ []
opened_marks {X} before bracket outer o =
    let a = open_marks before bracket outer in
    let first : Marked = marked marks.Opening (bracket o) (bracket o + 1) in
    let own : X → List Marked = λ x. marks_of_all (before x) ++ marked marks.Opening (bracket x) (bracket x + 1) ∷ [] in
    append-nil (open_marks before bracket (outer ++ o ∷ [])) ∙ flat_map-append own outer (o ∷ [])
    ∙ ap (λ (ms : List Marked). a ++ ms) (append-nil (own o)) ∙ sym (append_assoc a (marks_of_all (before o)) (first ∷ []))

-- a leaf behind trees
pub leaf_marks : {X : Type 0} (before : X → List Tree) (bracket : X → ℕ) (outer : List X) (ts : List Tree) (span : Span)
    → open_marks before bracket outer ++ marks_of_all (ts ++ trees.Leaf span ∷ [])
    ≡ (open_marks before bracket outer ++ marks_of_all ts) ++ marked marks.Leaf span.from span.to ∷ []
leaf_marks before bracket outer ts span =
    let a = open_marks before bracket outer in
    let leaf : List Marked = marked marks.Leaf span.from span.to ∷ [] in
    ap (λ (ms : List Marked). a ++ ms) (flat_map-append marks_of ts (trees.Leaf span ∷ []))
    ∙ ap (λ (ms : List Marked). a ++ (marks_of_all ts ++ (ms ++ []))) (marks_of-Leaf span)
    ∙ ap (λ (ms : List Marked). a ++ (marks_of_all ts ++ ms)) (append-nil leaf)
    ∙ sym (append_assoc a (marks_of_all ts) leaf)

-- the trees before a bracket of the reading, and its place
abbrev pub trees_before : Outer → List Tree
trees_before o = o.trees.items

abbrev pub bracket_of : Outer → ℕ
bracket_of o = o.bracket

pub closing_read : (outer before : List Outer) (o : Outer) (behind inner after : List Tree) (at : ℕ) → outer ≡ before ++ o ∷ [] → inner ≡ behind
    → after ≡ o.trees.items ++ trees.List (record { from = o.bracket; to = at + 1 }) inner ∷ []
    → flat_map outer_marks before ++ marks_of_all after ≡ (flat_map outer_marks outer ++ marks_of_all behind) ++ marked marks.Closing at (at + 1) ∷ []
closing_read outer before o behind inner after at outer-is inner-is after-is =
    let place : (at + 1) - 1 ≡ at = omega arith in
    ap (λ (ts : List Tree). flat_map outer_marks before ++ marks_of_all ts) after-is
    ∙ closed_marks trees_before bracket_of before o inner (at + 1)
    ∙ ap (λ (os : List Outer). (flat_map outer_marks os ++ marks_of_all inner) ++ marked marks.Closing ((at + 1) - 1) (at + 1) ∷ []) (sym outer-is)
    ∙ ap (λ (ts : List Tree). (flat_map outer_marks outer ++ marks_of_all ts) ++ marked marks.Closing ((at + 1) - 1) (at + 1) ∷ []) inner-is
    ∙ ap (λ (k : ℕ). (flat_map outer_marks outer ++ marks_of_all behind) ++ marked marks.Closing k (at + 1) ∷ []) place
