-- A tree's leaves have no faults exactly where all of them fit.
use Rattle.std.proofs.Common.{◌≡◌, ℕ, ◌+◌, ◌-◌, ◌≤◌, true, false, ◌&&◌, inl, inr, List, [], ◌∷◌, ◌++◌, All, length, Option, Some, None, refl, sym, ap, subst, ◌∙◌, arith}
use Rattle.std.specs.Prelude.{nat_lt, is_some, if◌then◌else◌}
use Rattle.std.proofs.lemmas.Bool.{cases_Bool, and_from, false_from_ne_true, le-ltb, ltb-false}
use Rattle.std.proofs.lemmas.List.Elements.{All-head, All-tail}
use Rattle.num_ends.specs.Decimal.{Decimal}
use Rattle.num_ends.specs.Names.{is_name}
use Rattle.sexp_text.specs.declared.marks.Mark.TheVariants as marks
use Rattle.sexp_text.specs.declared.marks.Marked.{Marked}
use Rattle.sexp_text.specs.declared.marks.Span.{Span}
use Rattle.sexp_text.specs.declared.trees.Tree.{Tree}
use Rattle.sexp_text.specs.declared.trees.Tree.TheVariants as trees
use Rattle.sexp_text.specs.Trees.{marked, marks_of, marks_of_all}
use Rattle.sexp_text.proofs.TreeMarks.{marks_of-Leaf, marks_of-List}
use Rattle.sexp_text.proofs.Walks.{induct_tree}
use Rattle.pddl_terms.specs.declared.limits.What.TheVariants as what
use Rattle.pddl_trees.specs.declared.faults.Reason.TheVariants as reason
use Rattle.pddl_trees.specs.Faults.{fault_at}
use Rattle.pddl_trees.specs.Words.{word_in, is_among, is_number_word, number_in, unsupported_words, bare_name}
use Rattle.pddl_trees.specs.Leaves.{all_leaves, leaf_faults, leaves_of, word_faults}
use Rattle.pddl_grammar.specs.Leaves.{HasFitLeaves, IsFitLeaf}
use Rattle.pddl_grammar.proofs.Spelled.{nils, no_more}
use Rattle.pddl_grammar.proofs.SpelledLeaves.{leaves_of-Leaf, leaves_of-List}

-- ---- one leaf

word_fits : (at : ℕ) (w : List ℕ) → is_number_word w ≡ false → word_faults at w ≡ [] → IsFitLeaf w
word_fits at w n e =
    let parts = nils (if is_name (bare_name w) && nat_lt 128 (length (bare_name w)) then fault_at at (reason.TooMany what.Letters) ∷ [] else [])
    (if is_among w unsupported_words then fault_at at reason.Unsupported ∷ [] else []) e in
    IsFitLeaf.a_word n (short parts.0) (false_from_ne_true (is_among w unsupported_words) (λ among. absurd (cc (rw among at parts.1))))
  where
    short : (if is_name (bare_name w) && nat_lt 128 (length (bare_name w)) then fault_at at (reason.TooMany what.Letters) ∷ [] else []) ≡ [] → is_name (bare_name w) ≡ true → length (bare_name w) ≤ 128
    short k named =
        elim (cases_Bool (nat_lt 128 (length (bare_name w)))) [
          | inl long ↦
              let both = and_from (is_name (bare_name w)) (nat_lt 128 (length (bare_name w))) named long in
              absurd (cc (rw both at k))
          | inr few ↦ ltb-false 128 (length (bare_name w)) few
        ]

-- a leaf without a fault is fit
pub leaf_is_fit : (at : ℕ) (w : List ℕ) → leaf_faults at w ≡ [] → IsFitLeaf w
leaf_is_fit at w e =
    elim (cases_Bool (is_number_word w)) [
      | inl n ↦ by_number n (number_in w) refl (rw n at e)
      | inr n ↦ word_fits at w n (rw n at e)
    ]
  where
    by_number : is_number_word w ≡ true → (o : Option Decimal) → number_in w ≡ o → (if is_some o then [] else fault_at at reason.Number ∷ []) ≡ [] → IsFitLeaf w
    by_number n None is k = absurd (cc k)
    by_number n (Some d) is k = IsFitLeaf.a_number d n is

pub fit_leaf_said : (at : ℕ) (w : List ℕ) → IsFitLeaf w → leaf_faults at w ≡ []
fit_leaf_said at w (IsFitLeaf.a_number d n is) = rw (n, is) refl
fit_leaf_said at w (IsFitLeaf.a_word n short known) =
    elim (cases_Bool (is_name (bare_name w))) [
      | inl named ↦
          let h : nat_lt 128 (length (bare_name w)) ≡ false = le-ltb 128 (length (bare_name w)) (short named) in
          rw (n, named, h, known) refl
      | inr unnamed ↦ rw (n, unnamed, known) refl
    ]

-- ---- marks

abbrev FitMarks : List ℕ → List Marked → Type 0
FitMarks text ms = (front rest : List Marked) (m : Marked) → ms ≡ front ++ m ∷ rest → m.mark ≡ marks.Leaf → IsFitLeaf (word_in text m.span)

fit_none : (text : List ℕ) → FitMarks text []
fit_none text [] rest m e leaf_mark = absurd (cc e)
fit_none text (x ∷ front) rest m e leaf_mark = absurd (cc e)

fit_more : (text : List ℕ) (n : Marked) (ms : List Marked) → (n.mark ≡ marks.Leaf → IsFitLeaf (word_in text n.span)) → FitMarks text ms → FitMarks text (n ∷ ms)
fit_more text n ms here later [] rest m e leaf_mark =
    let same : n ≡ m = cc in
    subst (λ (k : Marked). IsFitLeaf (word_in text k.span)) same (here (ap (λ (k : Marked). k.mark) same ∙ leaf_mark))
fit_more text n ms here later (x ∷ front) rest m e leaf_mark =
    let tail : ms ≡ front ++ m ∷ rest = cc in
    later front rest m tail leaf_mark

fit_first : (text : List ℕ) (n : Marked) (ms : List Marked) → FitMarks text (n ∷ ms) → n.mark ≡ marks.Leaf → IsFitLeaf (word_in text n.span)
fit_first text n ms all = all [] ms n refl

fit_rest : (text : List ℕ) (n : Marked) (ms : List Marked) → FitMarks text (n ∷ ms) → FitMarks text ms
fit_rest text n ms all front rest m e = all (n ∷ front) rest m (ap (λ (l : List Marked). n ∷ l) e)

fit_both : (text : List ℕ) (a b : List Marked) → FitMarks text a → FitMarks text b → FitMarks text (a ++ b)
fit_both text [] b f g = g
fit_both text (n ∷ a) b f g = fit_more text n (a ++ b) (fit_first text n a f) (fit_both text a b (fit_rest text n a f) g)

fit_parts : (text : List ℕ) (a b : List Marked) → FitMarks text (a ++ b) → FitMarks text a × FitMarks text b
fit_parts text [] b f = (fit_none text, f)
fit_parts text (n ∷ a) b f =
    let rest = fit_parts text a b (fit_rest text n (a ++ b) f) in
    (fit_more text n a (fit_first text n (a ++ b) f) rest.0, rest.1)

-- ---- trees

abbrev AgreesOn : List ℕ → Tree → Type 0
AgreesOn text t = (leaves_of text t ≡ [] → FitMarks text (marks_of t)) × (FitMarks text (marks_of t) → leaves_of text t ≡ [])

all_agree : (text : List ℕ) (ts : List Tree) → All (AgreesOn text) ts → (all_leaves text ts ≡ [] → FitMarks text (marks_of_all ts)) × (FitMarks text (marks_of_all ts) → all_leaves text ts ≡ [])
all_agree text [] each = (λ e. fit_none text, λ f. refl)
all_agree text (t ∷ ts) each =
    let here = All-head (AgreesOn text) t ts each in
    let later = all_agree text ts (All-tail (AgreesOn text) t ts each) in (
      λ e.
          let parts = nils (leaves_of text t) (all_leaves text ts) e in
          fit_both text (marks_of t) (marks_of_all ts) (here.0 parts.0) (later.0 parts.1),
      λ f.
          let parts = fit_parts text (marks_of t) (marks_of_all ts) f in
          no_more (leaves_of text t) (all_leaves text ts) (here.1 parts.0) (later.1 parts.1),
    )

agrees : (text : List ℕ) (t : Tree) → AgreesOn text t
agrees text = induct_tree (AgreesOn text) leaf_case list_case
  where
    leaf_case : (span : Span) → AgreesOn text (trees.Leaf span)
    leaf_case span =
        let m = marked marks.Leaf span.from span.to in (
          λ e. subst (FitMarks text) (sym (marks_of-Leaf span)) (fit_more text m [] (λ h. leaf_is_fit span.from (word_in text span) (sym (leaves_of-Leaf text span) ∙ e)) (fit_none text)),
          λ f. leaves_of-Leaf text span ∙ fit_leaf_said span.from (word_in text span) (fit_first text m [] (subst (FitMarks text) (marks_of-Leaf span) f) refl),
        )

    list_case : (span : Span) (ts : List Tree) → All (AgreesOn text) ts → AgreesOn text (trees.List span ts)
    list_case span ts each =
        let first = marked marks.Opening span.from (span.from + 1) in
        let last = marked marks.Closing (span.to - 1) span.to in
        let inner = all_agree text ts each in (
          λ e. subst (FitMarks text) (sym (marks_of-List span ts))
              (fit_more text first (marks_of_all ts ++ last ∷ []) (λ h. absurd (cc h))
              (fit_both text (marks_of_all ts) (last ∷ []) (inner.0 (sym (leaves_of-List text span ts) ∙ e)) (fit_more text last [] (λ h. absurd (cc h)) (fit_none text)))),
          λ f. leaves_of-List text span ts
              ∙ inner.1 (fit_parts text (marks_of_all ts) (last ∷ []) (fit_rest text first (marks_of_all ts ++ last ∷ []) (subst (FitMarks text) (marks_of-List span ts) f))).0,
        )

pub leaves_fit : (text : List ℕ) (t : Tree) → leaves_of text t ≡ [] → HasFitLeaves text t
leaves_fit text t = (agrees text t).0

pub leaves_said : (text : List ℕ) (t : Tree) → HasFitLeaves text t → leaves_of text t ≡ []
leaves_said text t = (agrees text t).1
