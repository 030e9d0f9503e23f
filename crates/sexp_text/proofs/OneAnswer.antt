-- A text has one list of trees or one first fault, and not both.
use Rattle.std.proofs.Common.{◌≡◌, ℕ, ◌-◌, ◌⊎◌, inl, inr, List, [], ◌∷◌, ◌++◌, All, Option, Some, None, Result, Ok, Err, refl, sym, ap, subst, ◌∙◌, append_assoc, arith}
use Rattle.std.specs.Option.{option_and_then}
use Rattle.std.proofs.lemmas.Option.{same_Some}
use Rattle.std.proofs.lemmas.List.{append-nil}
use Rattle.std.proofs.lemmas.List.Elements.{All-head, All-tail}
use Rattle.sexp_text.specs.declared.marks.Mark.{Mark}
use Rattle.sexp_text.specs.declared.marks.Mark.TheVariants as marks
use Rattle.sexp_text.specs.declared.marks.Span.{Span}
use Rattle.sexp_text.specs.declared.marks.Marked.{Marked}
use Rattle.sexp_text.specs.declared.trees.Tree.{Tree}
use Rattle.sexp_text.specs.declared.trees.Tree.TheVariants as trees
use Rattle.sexp_text.specs.declared.trees.SexpFault.{SexpFault}
use Rattle.sexp_text.specs.declared.trees.SexpFault.TheVariants as faults
use Rattle.sexp_text.specs.Trees.{marked, seen_from, all_allowed, depth_behind, marks_of, marks_of_all, MarkFault, FaultBehind, IsSound, IsFirstFault, IsUnclosed, AreTrees, IsTextFault}
use Rattle.sexp_text.proofs.TreeMarks.{marks_of-Leaf, marks_of-List}
use Rattle.sexp_text.proofs.Walks.{induct_tree, each_tree, trees_balance}

-- ---- the trees of marks

-- the trees before each open bracket, the last one first, and the trees behind it
abbrev State : Type 0
State = List (ℕ × List Tree) × List Tree

abbrev closed_state : Span → State → Option State
closed_state span ([], ts) = None
closed_state span ((from, before) ∷ outer, ts) = Some (outer, before ++ trees.List (record { from = from; to = span.to }) ts ∷ [])

abbrev state_after : Mark → Span → State → Option State
state_after marks.Opening span (outer, ts) = Some ((span.from, ts) ∷ outer, [])
state_after marks.Closing span state = closed_state span state
state_after marks.Leaf span (outer, ts) = Some (outer, ts ++ trees.Leaf span ∷ [])

abbrev states : State → List Marked → Option State
states state [] = Some state
states state (m ∷ ms) = option_and_then (λ next. states next ms) (state_after m.mark m.span state)

abbrev IsBuilt : Tree → Type 0
IsBuilt t = (outer : List (ℕ × List Tree)) (ts : List Tree) (ms : List Marked) → states (outer, ts) (marks_of t ++ ms) ≡ states (outer, ts ++ t ∷ []) ms

all_built : (us : List Tree) → All IsBuilt us → (outer : List (ℕ × List Tree)) (ts : List Tree) (ms : List Marked)
    → states (outer, ts) (marks_of_all us ++ ms) ≡ states (outer, ts ++ us) ms
all_built [] h outer ts ms = ap (λ (vs : List Tree). states (outer, vs) ms) (sym (append-nil ts))
all_built (u ∷ us) h outer ts ms =
    ap (states (outer, ts)) (append_assoc (marks_of u) (marks_of_all us) ms)
    ∙ All-head IsBuilt u us h outer ts (marks_of_all us ++ ms)
    ∙ all_built us (All-tail IsBuilt u us h) outer (ts ++ u ∷ []) ms
    ∙ ap (λ (vs : List Tree). states (outer, vs) ms) (append_assoc ts (u ∷ []) us)

is_built : (t : Tree) → IsBuilt t
is_built = induct_tree IsBuilt leaf list
  where
    leaf : (span : Span) → IsBuilt (trees.Leaf span)
    leaf span outer ts ms = ap (λ (ns : List Marked). states (outer, ts) (ns ++ ms)) (marks_of-Leaf span)

    list : (span : Span) (us : List Tree) → All IsBuilt us → IsBuilt (trees.List span us)
    list span us h outer ts ms =
        let last : Marked = marked marks.Closing (span.to - 1) span.to in
        ap (λ (ns : List Marked). states (outer, ts) (ns ++ ms)) (marks_of-List span us)
        ∙ ap (states ((span.from, ts) ∷ outer, [])) (append_assoc (marks_of_all us) (last ∷ []) ms)
        ∙ all_built us h ((span.from, ts) ∷ outer) [] (last ∷ ms)

trees_from_marks : (ts : List Tree) → states ([], []) (marks_of_all ts) ≡ Some ([], ts)
trees_from_marks ts =
    ap (states ([], [])) (sym (append-nil (marks_of_all ts))) ∙ all_built ts (each_tree IsBuilt is_built ts) [] [] []

pub same_trees : (ts us : List Tree) → marks_of_all ts ≡ marks_of_all us → ts ≡ us
same_trees ts us same =
    let both = sym (trees_from_marks ts) ∙ ap (states ([], [])) same ∙ trees_from_marks us in
    ap (λ (state : State). state.1) (same_Some _ _ both)

-- ---- lists that are split in two ways

-- the same place, or the one before the other
SplitCases : {X : Type 0} (b c : List X) (x y : X) (r s : List X) → Type 0
SplitCases b c x y r s =
    ((b ≡ c) × (x ≡ y) × (r ≡ s)) ⊎ (((more : _) × (c ≡ b ++ x ∷ more) × (r ≡ more ++ y ∷ s)) ⊎ ((more : _) × (b ≡ c ++ y ∷ more) × (s ≡ more ++ x ∷ r)))

split_cases : {X : Type 0} (b c : List X) (x y : X) (r s : List X) → b ++ x ∷ r ≡ c ++ y ∷ s → SplitCases b c x y r s
unfolding SplitCases
split_cases [] [] x y r s e = inl (refl, cc, cc)
split_cases {X} [] (z ∷ c) x y r s e =
    let head : z ≡ x = cc in
    let tail : r ≡ c ++ y ∷ s = cc in
    inr (inl (c, ap (λ (w : X). w ∷ c) head, tail))
split_cases {X} (z ∷ b) [] x y r s e =
    let head : z ≡ y = cc in
    let tail : s ≡ b ++ x ∷ r = cc in
    inr (inr (b, ap (λ (w : X). w ∷ b) head, tail))
split_cases {X} (z ∷ b) (w ∷ c) x y r s e =
    let head : z ≡ w = cc in
    let tail : b ++ x ∷ r ≡ c ++ y ∷ s = cc in
    elim (split_cases b c x y r s tail) [
      | inl same ↦ inl (ap (λ (v : X). v ∷ b) head ∙ ap (λ (l : List X). w ∷ l) same.0, same.1, same.2)
      | inr (inl first) ↦ inr (inl (first.0, ap (λ (l : List X). w ∷ l) first.1 ∙ ap (λ (v : X). v ∷ b ++ x ∷ first.0) (sym head), first.2))
      | inr (inr second) ↦ inr (inr (second.0, ap (λ (l : List X). z ∷ l) second.1 ∙ ap (λ (v : X). v ∷ c ++ y ∷ second.0) head, second.2))
    ]

allowed_split : (b all : List Marked) (here : Result Marked ℕ) (rest : List (Result Marked ℕ)) → all_allowed b ++ here ∷ rest ≡ all_allowed all
    → (m : Marked) × (more : List Marked) × (here ≡ Ok m) × (all ≡ b ++ m ∷ more)
allowed_split [] [] here rest e = absurd cc
allowed_split [] (m ∷ more) here rest e = (m, more, cc, refl)
allowed_split (n ∷ b) [] here rest e = absurd cc
allowed_split (n ∷ b) (m ∷ all) here rest e =
    let head : n ≡ m = cc in
    let tail : all_allowed b ++ here ∷ rest ≡ all_allowed all = cc in
    let found = allowed_split b all here rest tail in
    (found.0, found.1, found.2, ap (λ (l : List Marked). m ∷ l) found.3 ∙ ap (λ (v : Marked). v ∷ b ++ found.0 ∷ found.1) (sym head))

same_allowed : (a b : List Marked) → all_allowed a ≡ all_allowed b → a ≡ b
same_allowed [] [] e = refl
same_allowed [] (m ∷ b) e = absurd cc
same_allowed (m ∷ a) [] e = absurd cc
same_allowed (m ∷ a) (n ∷ b) e =
    let head : m ≡ n = cc in
    let tail : all_allowed a ≡ all_allowed b = cc in
    ap (λ (v : Marked). v ∷ a) head ∙ ap (λ (l : List Marked). n ∷ l) (same_allowed a b tail)

-- ---- one first fault

mark_fault_unique : (mark : Mark) (depth position : ℕ) (f g : SexpFault) → MarkFault mark depth position f → MarkFault mark depth position g → f ≡ g
mark_fault_unique marks.Opening depth position f g x y = x.1 ∙ sym y.1
mark_fault_unique marks.Closing depth position f g x y = x.1 ∙ sym y.1
mark_fault_unique marks.Leaf depth position f g x y = absurd x

fault_unique : (before : List Marked) (here : Result Marked ℕ) (f g : SexpFault) → FaultBehind before here f → FaultBehind before here g → f ≡ g
fault_unique before (Ok m) f g x y = mark_fault_unique m.mark (depth_behind before) m.span.from f g x y
fault_unique before (Err position) f g x y = x ∙ sym y

-- nothing in sound marks is a fault
no_fault_within : (b all : List Marked) (here : Result Marked ℕ) (rest : List (Result Marked ℕ)) (f : SexpFault) → IsSound all
    → all_allowed b ++ here ∷ rest ≡ all_allowed all → FaultBehind b here f → ⊥
no_fault_within b all here rest f sound split at_fault =
    let found = allowed_split b all here rest split in
    sound b found.1 found.0 f found.3 (subst (λ (h : Result Marked ℕ). FaultBehind b h f) found.2 at_fault)

one_first : (seen : List (Result Marked ℕ)) (f g : SexpFault) → IsFirstFault seen f → IsFirstFault seen g → f ≡ g
unfolding SplitCases
one_first seen f g x y =
    elim (split_cases (all_allowed x.before) (all_allowed y.before) x.here y.here x.rest y.rest (sym x.seen_is ∙ y.seen_is)) [
      | inl same ↦
          let before = same_allowed x.before y.before same.0 in
          fault_unique y.before y.here f g
          (subst (λ (b : List Marked). FaultBehind b y.here f) before (subst (λ (h : Result Marked ℕ). FaultBehind x.before h f) same.1 x.a_fault)) y.a_fault
      | inr (inl first) ↦ absurd (no_fault_within x.before y.before x.here first.0 f y.sound_before (sym first.1) x.a_fault)
      | inr (inr second) ↦ absurd (no_fault_within y.before x.before y.here second.0 g x.sound_before (sym second.1) y.a_fault)
    ]

first_not_unclosed : (seen : List (Result Marked ℕ)) (f : SexpFault) (position : ℕ) → IsFirstFault seen f → IsUnclosed seen position → ⊥
first_not_unclosed seen f position x y =
    no_fault_within x.before (y.before ++ y.bracket ∷ y.rest) x.here x.rest f y.sound (sym x.seen_is ∙ y.seen_is) x.a_fault

one_unclosed : (seen : List (Result Marked ℕ)) (p q : ℕ) → IsUnclosed seen p → IsUnclosed seen q → p ≡ q
unfolding SplitCases
one_unclosed seen p q x y =
    let all = same_allowed (x.before ++ x.bracket ∷ x.rest) (y.before ++ y.bracket ∷ y.rest) (sym x.seen_is ∙ y.seen_is) in
    elim (split_cases x.before y.before x.bracket y.bracket x.rest y.rest all) [
      | inl same ↦ sym x.place ∙ ap (λ (m : Marked). m.span.from) same.1 ∙ y.place
      | inr (inl first) ↦
          let level = x.unclosed first.0 (y.bracket ∷ y.rest) first.2 in
          let none = ap depth_behind (sym first.1) ∙ y.outermost in
          absurd (omega arith)
      | inr (inr second) ↦
          let level = y.unclosed second.0 (x.bracket ∷ x.rest) second.2 in
          let none = ap depth_behind (sym second.1) ∙ x.outermost in
          absurd (omega arith)
    ]

-- ---- trees and faults

trees_not_first : (text : List ℕ) (ts : List Tree) (f : SexpFault) → AreTrees text ts → IsFirstFault (seen_from text 0) f → ⊥
trees_not_first text ts f a x = no_fault_within x.before (marks_of_all ts) x.here x.rest f a.sound (sym x.seen_is ∙ a.marks_are) x.a_fault

trees_not_unclosed : (text : List ℕ) (ts : List Tree) (p : ℕ) → AreTrees text ts → IsUnclosed (seen_from text 0) p → ⊥
trees_not_unclosed text ts p a x =
    let all = same_allowed (x.before ++ x.bracket ∷ x.rest) (marks_of_all ts) (sym x.seen_is ∙ a.marks_are) in
    let level = x.unclosed x.rest [] (sym (append-nil x.rest)) in
    let same = ap depth_behind all in
    let balance = trees_balance ts in
    omega arith

pub one_list : (text : List ℕ) (ts us : List Tree) → AreTrees text ts → AreTrees text us → ts ≡ us
one_list text ts us a b = same_trees ts us (same_allowed (marks_of_all ts) (marks_of_all us) (sym a.marks_are ∙ b.marks_are))

pub no_fault : (text : List ℕ) (ts : List Tree) (f : SexpFault) → AreTrees text ts → IsTextFault text f → ⊥
no_fault text ts (faults.Unclosed p) a x = trees_not_unclosed text ts p a x
no_fault text ts (faults.Stray p) a x = trees_not_first text ts (faults.Stray p) a x
no_fault text ts (faults.BadByte p) a x = trees_not_first text ts (faults.BadByte p) a x
no_fault text ts (faults.TooDeep p) a x = trees_not_first text ts (faults.TooDeep p) a x
no_fault text ts faults.NoMemory a x = x

-- a first fault of the text, by cases
data FaultKind : List ℕ → SexpFault → Type 0 where
  first : {text : List ℕ} {f : SexpFault} → IsFirstFault (seen_from text 0) f → FaultKind text f
  unclosed : {text : List ℕ} {p : ℕ} → IsUnclosed (seen_from text 0) p → FaultKind text (faults.Unclosed p)

kind_of : (text : List ℕ) (f : SexpFault) → IsTextFault text f → FaultKind text f
kind_of text (faults.Unclosed p) x = unclosed x
kind_of text (faults.Stray p) x = first x
kind_of text (faults.BadByte p) x = first x
kind_of text (faults.TooDeep p) x = first x
kind_of text faults.NoMemory x = absurd x

same_kind : (text : List ℕ) (f g : SexpFault) → FaultKind text f → FaultKind text g → f ≡ g
same_kind text f g (first x) (first y) = one_first (seen_from text 0) f g x y
same_kind text f _ (first x) (unclosed {p = p} y) = absurd (first_not_unclosed (seen_from text 0) f p x y)
same_kind text _ g (unclosed {p = p} x) (first y) = absurd (first_not_unclosed (seen_from text 0) g p y x)
same_kind text _ _ (unclosed {p = p} x) (unclosed {p = q} y) = ap (λ (n : ℕ). faults.Unclosed n) (one_unclosed (seen_from text 0) p q x y)

pub one_fault : (text : List ℕ) (f g : SexpFault) → IsTextFault text f → IsTextFault text g → f ≡ g
one_fault text f g x y = same_kind text f g (kind_of text f x) (kind_of text g y)
