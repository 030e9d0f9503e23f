-- What is seen of a text while its trees are read, and the faults.
use Rattle.std.proofs.Common.{◌≡◌, ℕ, suc, ◌+◌, List, [], ◌∷◌, ◌++◌, length, cond, map, Some, None, Result, Ok, Err, refl, sym, ap, subst, ◌∙◌, append_assoc, arith}
use Rattle.std.specs.List.{filter, flat_map}
use Rattle.std.specs.Global.{Vec}
use Rattle.std.proofs.lemmas.Option.{same_Some}
use Rattle.std.proofs.lemmas.List.{append-nil, map-append, length-append}
use Rattle.std.proofs.lemmas.List.Elements.{filter-append}
use Rattle.sexp_text.specs.Reading.{Bad, items_at, item_of, token_of_mark}
use Rattle.sexp_text.specs.declared.marks.Mark.{Mark}
use Rattle.sexp_text.specs.declared.marks.Mark.TheVariants as marks
use Rattle.sexp_text.specs.declared.marks.Marked.{Marked}
use Rattle.sexp_text.specs.declared.trees.Tree.{Tree}
use Rattle.sexp_text.specs.declared.trees.SexpFault.{SexpFault}
use Rattle.sexp_text.specs.declared.trees.SexpFault.TheVariants as faults
use Rattle.sexp_text.specs.declared.reading.Outer.{Outer}
use Rattle.sexp_text.specs.Trees.{marked, mark_of_token, seen_of, seen_from, all_allowed, is_opening, is_closing, marks_of_all, MarkFault, FaultBehind, IsFirstFault, IsUnclosed, AreTrees, IsTextFault}
use Rattle.sexp_text.specs.Open.{outer_marks, IsRefusal, outermost}
use Rattle.sexp_text.proofs.Depths.{depth_through, openings, closings, depth_is, through_sound, length-filter}
use Rattle.sexp_text.proofs.TreeMarks.{bracket_of, open_marks, trees_before}
use Rattle.sexp_text.proofs.Walks.{open_first, trees_balance, front_level}

same_mark : (mark : Mark) (bytes : List ℕ) → mark_of_token (token_of_mark mark bytes) ≡ mark
same_mark marks.Opening bytes = refl
same_mark marks.Closing bytes = refl
same_mark marks.Leaf bytes = refl

pub seen_next : (text : List ℕ) (at : ℕ) (m : Marked) → items_at text at ≡ item_of text m ∷ items_at text m.span.to
    → seen_from text at ≡ Ok m ∷ seen_from text m.span.to
seen_next text at m is =
    ap (map seen_of) is
    ∙ ap (λ (mark : Mark). Ok (marked mark m.span.from m.span.to) ∷ seen_from text m.span.to) (same_mark m.mark _)

pub seen_bad : (text : List ℕ) (at position : ℕ) → items_at text at ≡ Bad position ∷ [] → seen_from text at ≡ Err position ∷ []
seen_bad text at position is = ap (map seen_of) is

pub seen_end : (text : List ℕ) (at : ℕ) → items_at text at ≡ [] → seen_from text at ≡ []
seen_end text at is = ap (map seen_of) is

pub more_seen : (whole rest more : List (Result Marked ℕ)) (old new : List Marked) (m : Marked) → whole ≡ all_allowed old ++ rest → rest ≡ Ok m ∷ more
    → new ≡ old ++ m ∷ [] → whole ≡ all_allowed new ++ more
more_seen whole rest more old new m whole-is rest-is new-is =
    whole-is ∙ ap (λ (r : List (Result Marked ℕ)). all_allowed old ++ r) rest-is
    ∙ sym (append_assoc (all_allowed old) (Ok m ∷ []) more)
    ∙ ap (λ (r : List (Result Marked ℕ)). r ++ more) (sym (map-append (λ (n : Marked). Ok n) old (m ∷ [])))
    ∙ ap (λ (ms : List Marked). all_allowed ms ++ more) (sym new-is)

pub all_seen : (whole rest : List (Result Marked ℕ)) (old : List Marked) → whole ≡ all_allowed old ++ rest → rest ≡ [] → whole ≡ all_allowed old
all_seen whole rest old whole-is rest-is =
    whole-is ∙ ap (λ (r : List (Result Marked ℕ)). all_allowed old ++ r) rest-is ∙ append-nil (all_allowed old)

-- ---- faults

pub first_fault : (seen rest : List (Result Marked ℕ)) (here : Result Marked ℕ) (before : List Marked) (depth : ℕ) (fault : SexpFault)
    → seen ≡ all_allowed before ++ here ∷ rest → depth_through 0 before ≡ Some depth → FaultBehind before here fault → IsFirstFault seen fault
first_fault seen rest here before depth fault seen-is through at_fault =
    record { before = before; here = here; rest = rest; seen_is = seen-is; sound_before = through_sound before depth through; a_fault = at_fault }

pub bad_byte : (text : List ℕ) (at position : ℕ) (before : List Marked) (depth : ℕ) → seen_from text 0 ≡ all_allowed before ++ seen_from text at
    → depth_through 0 before ≡ Some depth → items_at text at ≡ Bad position ∷ [] → IsFirstFault (seen_from text 0) (faults.BadByte position)
bad_byte text at position before depth seen through items =
    first_fault (seen_from text 0) [] (Err position) before depth (faults.BadByte position)
    (seen ∙ ap (λ (r : List (Result Marked ℕ)). all_allowed before ++ r) (seen_bad text at position items)) through refl

never_unclosed : (mark : Mark) (depth at position : ℕ) → MarkFault mark depth at (faults.Unclosed position) → ⊥
never_unclosed marks.Opening depth at position (full, is) = cc
never_unclosed marks.Closing depth at position (empty, is) = cc
never_unclosed marks.Leaf depth at position h = h

pub refused : (text : List ℕ) (at : ℕ) (m : Marked) (before : List Marked) (depth : ℕ) (fault : SexpFault)
    → seen_from text 0 ≡ all_allowed before ++ seen_from text at → depth_through 0 before ≡ Some depth
    → items_at text at ≡ item_of text m ∷ items_at text m.span.to → IsRefusal m depth fault → (fault ≡ faults.NoMemory → ⊥) → IsTextFault text fault
refused text at m before depth fault seen through items refusal memory = go fault refusal memory
  where
    here : seen_from text 0 ≡ all_allowed before ++ Ok m ∷ seen_from text m.span.to
    here = seen ∙ ap (λ (r : List (Result Marked ℕ)). all_allowed before ++ r) (seen_next text at m items)

    first : (f : SexpFault) → MarkFault m.mark depth m.span.from f → IsFirstFault (seen_from text 0) f
    first f h = first_fault (seen_from text 0) (seen_from text m.span.to) (Ok m) before depth f here through
        (subst (λ (d : ℕ). MarkFault m.mark d m.span.from f) (sym (depth_is before depth through)) h)

    go : (f : SexpFault) → IsRefusal m depth f → (f ≡ faults.NoMemory → ⊥) → IsTextFault text f
    go (faults.Unclosed position) h other = absurd (never_unclosed m.mark depth m.span.from position h)
    go (faults.Stray position) h other = first (faults.Stray position) h
    go (faults.BadByte position) h other = first (faults.BadByte position) h
    go (faults.TooDeep position) h other = first (faults.TooDeep position) h
    go faults.NoMemory h other = absurd (other refl)

-- ---- the end of a text

none_open : (outer : List Outer) → outermost outer ≡ None → outer ≡ []
none_open [] e = refl
none_open (o ∷ os) e = absurd cc

first_open : (outer : List Outer) (position : ℕ) → outermost outer ≡ Some position → (o : Outer) × (os : List Outer) × (outer ≡ o ∷ os) × (o.bracket ≡ position)
first_open [] position e = absurd cc
first_open (o ∷ os) position e = (o, os, refl, same_Some _ _ e)

-- all was seen, and no bracket is open
pub are_trees : (text : List ℕ) (ts : List Tree) → seen_from text 0 ≡ all_allowed (marks_of_all ts) → depth_through 0 (marks_of_all ts) ≡ Some 0 → AreTrees text ts
are_trees text ts seen through = record { marks_are = seen; sound = through_sound (marks_of_all ts) 0 through }

counts-append : (before : List Marked) (m : Marked) (front : List Marked) → m.mark ≡ marks.Opening
    → (openings (before ++ m ∷ front) ≡ openings before + suc (openings front)) × (closings (before ++ m ∷ front) ≡ closings before + closings front)
counts-append before m front opens =
    let one : cond {A = ℕ} (is_opening m.mark) 1 0 ≡ 1 = ap (λ (mark : Mark). cond {A = ℕ} (is_opening mark) 1 0) opens in
    let none : cond {A = ℕ} (is_closing m.mark) 1 0 ≡ 0 = ap (λ (mark : Mark). cond {A = ℕ} (is_closing mark) 1 0) opens in
    let o = ap length (filter-append (λ (n : Marked). is_opening n.mark) before (m ∷ front)) ∙ length-append (filter (λ (n : Marked). is_opening n.mark) before) (filter (λ (n : Marked). is_opening n.mark) (m ∷ front)) in
    let c = ap length (filter-append (λ (n : Marked). is_closing n.mark) before (m ∷ front)) ∙ length-append (filter (λ (n : Marked). is_closing n.mark) before) (filter (λ (n : Marked). is_closing n.mark) (m ∷ front)) in
    let first = length-filter (λ n. is_opening n.mark) m front in
    let last = length-filter (λ n. is_closing n.mark) m front in
    (omega arith, omega arith)

-- all was seen, and this bracket is the outermost that is open
pub is_unclosed : {X : Type 0} (before : X → List Tree) (bracket : X → ℕ) (text : List ℕ) (o : X) (os : List X) (ts : List Tree)
    → seen_from text 0 ≡ all_allowed (open_marks before bracket (o ∷ os) ++ marks_of_all ts)
    → depth_through 0 (open_marks before bracket (o ∷ os) ++ marks_of_all ts) ≡ Some (suc (length os)) → IsUnclosed (seen_from text 0) (bracket o)
is_unclosed before bracket text o os ts seen through =
    let first : Marked = marked marks.Opening (bracket o) (bracket o + 1) in
    let trees = marks_of_all (before o) in
    let rest = open_marks before bracket os ++ marks_of_all ts in
    let parts = open_first before bracket o os ts in
    let balance = trees_balance (before o) in
    record {
      before = trees;
      bracket = first;
      rest = rest;
      seen_is = seen ∙ ap all_allowed parts;
      sound = through_sound (trees ++ first ∷ rest) (suc (length os)) (ap (depth_through 0) (sym parts) ∙ through);
      opens = refl;
      place = refl;
      outermost = omega arith;
      unclosed = λ front more split.
          let counts = counts-append trees first front refl in
          let level = front_level before bracket os ts front more split in
          let o = counts.0 in
          let c = counts.1 in
          omega arith;
    }

pub are_finished : (text : List ℕ) (at : ℕ) (outer : List Outer) (kept given : Vec Tree)
    → seen_from text 0 ≡ all_allowed (flat_map outer_marks outer ++ marks_of_all kept.items) ++ seen_from text at
    → depth_through 0 (flat_map outer_marks outer ++ marks_of_all kept.items) ≡ Some (length outer) → items_at text at ≡ [] → outermost outer ≡ None → given ≡ kept
    → AreTrees text given.items
are_finished text at outer kept given seen through items none same =
    let empty = none_open outer none in
    let all = all_seen (seen_from text 0) (seen_from text at) (flat_map outer_marks outer ++ marks_of_all kept.items) seen (seen_end text at items) in
    let trees = are_trees text kept.items (all ∙ ap (λ (os : List Outer). all_allowed (flat_map outer_marks os ++ marks_of_all kept.items)) empty)
    (subst (λ (os : List Outer). depth_through 0 (flat_map outer_marks os ++ marks_of_all kept.items) ≡ Some (length os)) empty through) in
    subst (λ (v : Vec Tree). AreTrees text v.items) (sym same) trees

pub is_left_open : (text : List ℕ) (at position : ℕ) (outer : List Outer) (ts : List Tree) (fault : SexpFault)
    → seen_from text 0 ≡ all_allowed (flat_map outer_marks outer ++ marks_of_all ts) ++ seen_from text at
    → depth_through 0 (flat_map outer_marks outer ++ marks_of_all ts) ≡ Some (length outer) → items_at text at ≡ [] → outermost outer ≡ Some position
    → fault ≡ faults.Unclosed position → IsTextFault text fault
is_left_open text at position outer ts fault seen through items some same =
    let open_one = first_open outer position some in
    let o = open_one.0 in
    let os = open_one.1 in
    let all = all_seen (seen_from text 0) (seen_from text at) (flat_map outer_marks outer ++ marks_of_all ts) seen (seen_end text at items) in
    let unclosed = is_unclosed trees_before bracket_of text o os ts
    (all ∙ ap (λ (us : List Outer). all_allowed (flat_map outer_marks us ++ marks_of_all ts)) open_one.2)
    (subst (λ (us : List Outer). depth_through 0 (flat_map outer_marks us ++ marks_of_all ts) ≡ Some (length us)) open_one.2 through) in
    subst (IsTextFault text) (sym same) (subst (IsUnclosed (seen_from text 0)) open_one.3 unclosed)
