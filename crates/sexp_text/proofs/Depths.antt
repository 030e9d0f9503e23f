-- The depth behind marks, taken one after another.
use Rattle.std.proofs.Common.{◌≡◌, ℕ, zero, suc, ◌+◌, Bool, true, false, cond, eqb, List, [], ◌∷◌, ◌++◌, length, Option, Some, None, refl, sym, ap, subst, ◌∙◌, inl, inr, arith}
use Rattle.std.specs.List.{filter}
use Rattle.std.specs.Option.{option_and_then}
use Rattle.std.proofs.lemmas.Option.{same_Some, none-some}
use Rattle.std.proofs.lemmas.Bool.{cases_Bool, cond-true, cond-false, eq-eqb}
use Rattle.sexp_text.specs.declared.marks.Mark.{Mark}
use Rattle.sexp_text.specs.declared.marks.Mark.TheVariants as marks
use Rattle.sexp_text.specs.declared.marks.Marked.{Marked}
use Rattle.sexp_text.specs.declared.trees.SexpFault.{SexpFault}
use Rattle.sexp_text.specs.Trees.{is_opening, is_closing, depth_behind, MarkFault, IsSound}
use Rattle.sexp_text.specs.Open.{depth_after}

-- the depth behind marks, from a depth before them, where no mark is a fault
abbrev pub depth_through : ℕ → List Marked → Option ℕ
depth_through depth [] = Some depth
depth_through depth (m ∷ ms) = option_and_then (λ next. depth_through next ms) (depth_after m.mark depth)

abbrev pub openings : List Marked → ℕ
openings ms = length (filter (λ m. is_opening m.mark) ms)

abbrev pub closings : List Marked → ℕ
closings ms = length (filter (λ m. is_closing m.mark) ms)

pub through_some : (o : Option ℕ) (f : ℕ → Option ℕ) (d : ℕ) → option_and_then f o ≡ Some d → (e : ℕ) × (o ≡ Some e) × (f e ≡ Some d)
through_some (Some e) f d is = (e, refl, is)
through_some None f d is = absurd cc

pub through-append : (before rest : List Marked) (depth last : ℕ) → depth_through depth (before ++ rest) ≡ Some last
    → (between : ℕ) × (depth_through depth before ≡ Some between) × (depth_through between rest ≡ Some last)
through-append [] rest depth last is = (depth, refl, is)
through-append (m ∷ ms) rest depth last is =
    let first = through_some (depth_after m.mark depth) (λ next. depth_through next (ms ++ rest)) last is in
    let more = through-append ms rest first.0 last first.2 in
    (more.0, ap (option_and_then (λ next. depth_through next ms)) first.1 ∙ more.1, more.2)

pub through-one : (ms : List Marked) (m : Marked) (depth between last : ℕ) → depth_through depth ms ≡ Some between → depth_after m.mark between ≡ Some last
    → depth_through depth (ms ++ m ∷ []) ≡ Some last
through-one [] m depth between last is next =
    let same : depth ≡ between = same_Some _ _ is in
    ap (option_and_then (λ d. Some d)) (ap (depth_after m.mark) same ∙ next)
through-one (n ∷ ms) m depth between last is next =
    let first = through_some (depth_after n.mark depth) (λ d. depth_through d ms) between is in
    ap (option_and_then (λ d. depth_through d (ms ++ m ∷ []))) first.1 ∙ through-one ms m first.0 between last first.2 next

-- one mark counts for one
step_counts : (mark : Mark) (depth next : ℕ) → depth_after mark depth ≡ Some next
    → depth + cond (is_opening mark) 1 0 ≡ next + cond (is_closing mark) 1 0
step_counts marks.Opening depth next is =
    elim (cases_Bool (eqb depth 64)) [
      | inl full ↦ absurd (let none = sym (cond-true _ None (Some (depth + 1)) full) ∙ is in cc)
      | inr other ↦
          let same : depth + 1 ≡ next = same_Some _ _ (sym (cond-false _ None (Some (depth + 1)) other) ∙ is) in
          omega arith
    ]
step_counts marks.Closing zero next is = absurd cc
step_counts marks.Closing (suc depth) next is =
    let same : depth ≡ next = same_Some _ _ is in
    omega arith
step_counts marks.Leaf depth next is =
    let same : depth ≡ next = same_Some _ _ is in
    omega arith

pub length-filter : (test : Marked → Bool) (m : Marked) (ms : List Marked) → length (filter test (m ∷ ms)) ≡ cond (test m) 1 0 + length (filter test ms)
length-filter test m ms = go (test m)
  where
    go : (b : Bool) → length (cond b (m ∷ filter test ms) (filter test ms)) ≡ cond b 1 0 + length (filter test ms)
    go true = omega arith
    go false = omega arith

pub through_counts : (ms : List Marked) (depth last : ℕ) → depth_through depth ms ≡ Some last → depth + openings ms ≡ last + closings ms
through_counts [] depth last is =
    let same : depth ≡ last = same_Some _ _ is in
    omega arith
through_counts (m ∷ ms) depth last is =
    let first = through_some (depth_after m.mark depth) (λ next. depth_through next ms) last is in
    let one = step_counts m.mark depth first.0 first.1 in
    let more = through_counts ms first.0 last first.2 in
    let o = length-filter (λ n. is_opening n.mark) m ms in
    let c = length-filter (λ n. is_closing n.mark) m ms in
    omega arith

-- the depth behind marks that are no faults
pub depth_is : (ms : List Marked) (last : ℕ) → depth_through 0 ms ≡ Some last → depth_behind ms ≡ last
depth_is ms last is =
    let counts = through_counts ms 0 last is in
    omega arith

no_fault : (mark : Mark) (depth next position : ℕ) (fault : SexpFault) → depth_after mark depth ≡ Some next → MarkFault mark depth position fault → ⊥
no_fault marks.Opening depth next position fault is (full, _) =
    let none = sym (cond-true _ None (Some (depth + 1)) (eq-eqb depth 64 full)) ∙ is in
    none-some next none
no_fault marks.Closing zero next position fault is (empty, _) = none-some next is
no_fault marks.Closing (suc depth) next position fault is (empty, _) = omega arith
no_fault marks.Leaf depth next position fault is h = h

-- marks through which a depth goes are no faults
pub through_sound : (ms : List Marked) (last : ℕ) → depth_through 0 ms ≡ Some last → IsSound ms
through_sound ms last is before rest m fault split at_fault =
    let parts = through-append before (m ∷ rest) 0 last (ap (depth_through 0) (sym split) ∙ is) in
    let next = through_some (depth_after m.mark parts.0) (λ d. depth_through d rest) last parts.2 in
    no_fault m.mark parts.0 next.0 m.span.from fault next.1
    (subst (λ (d : ℕ). MarkFault m.mark d m.span.from fault) (depth_is before parts.0 parts.1) at_fault)
