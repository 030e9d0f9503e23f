-- A text has trees or a first fault.
use Rattle.std.proofs.Common.{◌≡◌, ℕ, suc, ◌+◌, ◌-◌, Bool, true, false, cond, eqb, ◌⊎◌, inl, inr, List, [], ◌∷◌, ◌++◌, length, map, drop, All, Some, Result, Ok, Err, refl, sym, ap, subst, ◌∙◌, add-one, length-append, arith}
use Rattle.std.proofs.lemmas.Bool.{cases_Bool, cond-false, eqb-true}
use Rattle.std.proofs.lemmas.List.{append-nil}
use Rattle.std.proofs.lemmas.List.Elements.{All-cons, All-drop, All-nil, All-head, All-tail}
use Rattle.sexp_text.specs.Pieces.{Opening, Closing, Leaf, is_word_byte}
use Rattle.sexp_text.specs.Reading.{Item, Says, Bad, begins_word, comment_after, is_gap_byte, items_at, items_from}
use Rattle.sexp_text.specs.declared.marks.Mark.TheVariants as marks
use Rattle.sexp_text.specs.declared.marks.Span.{Span}
use Rattle.sexp_text.specs.declared.marks.Marked.{Marked}
use Rattle.sexp_text.specs.declared.trees.Tree.{Tree}
use Rattle.sexp_text.specs.declared.trees.Tree.TheVariants as trees
use Rattle.sexp_text.specs.declared.trees.SexpFault.{SexpFault}
use Rattle.sexp_text.specs.declared.trees.SexpFault.TheVariants as faults
use Rattle.sexp_text.specs.Trees.{marked, seen_of, seen_from, all_allowed, marks_of_all, MarkFault, IsFirstFault, AreTrees, IsTextFault}
use Rattle.sexp_text.specs.Open.{depth_after}
use Rattle.sexp_text.proofs.TreeMarks.{closed_marks, leaf_marks, open_marks, opened_marks}
use Rattle.sexp_text.proofs.Depths.{depth_is, depth_through, through-one}
use Rattle.sexp_text.proofs.TreesRead.{are_trees, first_fault, is_unclosed, more_seen}

-- ---- a bracket has one byte

abbrev IsPlacedItem : Item → Type 0
IsPlacedItem (Says Opening from to) = to ≡ from + 1
IsPlacedItem (Says Closing from to) = to ≡ from + 1
IsPlacedItem (Says (Leaf w) from to) = Unit {0}
IsPlacedItem (Bad position) = Unit {0}

if_placed : (b : Bool) (xs ys : List Item) → All IsPlacedItem xs → All IsPlacedItem ys → All IsPlacedItem (cond b xs ys)
if_placed true xs ys hx hy = hx
if_placed false xs ys hx hy = hy

items_placed : (comment : Bool) (at : ℕ) (text : List ℕ) → All IsPlacedItem (items_from comment at text)
unfolding items_from
items_placed comment at [] = All-nil IsPlacedItem
items_placed comment at (b ∷ bs) =
    let next = items_placed false (suc at) bs in
    let step : suc at ≡ at + 1 = omega arith in
    if_placed (is_gap_byte comment b) _ _ (items_placed (comment_after comment b) (suc at) bs)
    (if_placed (eqb b 40) _ _ (All-cons IsPlacedItem (Says Opening at (suc at)) _ step next)
    (if_placed (eqb b 41) _ _ (All-cons IsPlacedItem (Says Closing at (suc at)) _ step next)
    (if_placed (is_word_byte b) _ _ (All-cons IsPlacedItem _ _ tt (if_placed (begins_word bs) _ _ (All-drop IsPlacedItem 1 _ next) next))
    (All-cons IsPlacedItem (Bad at) [] tt (All-nil IsPlacedItem)))))

-- ---- the reading, mark by mark

-- an open bracket: the trees before it, and its place
abbrev Bracket : Type 0
Bracket = List Tree × ℕ

abbrev before : Bracket → List Tree
before b = b.0

abbrev place : Bracket → ℕ
place b = b.1

abbrev marks_so_far : List Bracket → List Tree → List Marked
marks_so_far outer ts = open_marks before place outer ++ marks_of_all ts

-- no fault so far: these brackets are open, the outermost first, these trees stand behind the last of them, and this is left
record HasRead (text : List ℕ) (outer : List Bracket) (ts : List Tree) (rest : List (Result Marked ℕ)) : Type 0 where
  seen : seen_from text 0 ≡ all_allowed (marks_so_far outer ts) ++ rest
  depth : depth_through 0 (marks_so_far outer ts) ≡ Some (length outer)

abbrev IsAnswered : List ℕ → Type 0
IsAnswered text = ((ts : List Tree) × AreTrees text ts) ⊎ ((fault : SexpFault) × IsTextFault text fault)

taken : (text : List ℕ) (outer next : List Bracket) (ts us : List Tree) (m n : Marked) (more : List (Result Marked ℕ)) → HasRead text outer ts (Ok m ∷ more)
    → m ≡ n → marks_so_far next us ≡ marks_so_far outer ts ++ n ∷ [] → depth_after n.mark (length outer) ≡ Some (length next) → HasRead text next us more
taken text outer next ts us m n more h same marks-are depth-is =
    let old = marks_so_far outer ts in
    record {
      seen = more_seen _ (Ok m ∷ more) more old (marks_so_far next us) n h.seen (ap (λ (v : Marked). Ok v ∷ more) same) marks-are;
      depth = ap (depth_through 0) marks-are ∙ through-one old n 0 (length outer) (length next) h.depth depth-is;
    }

refused : (text : List ℕ) (outer : List Bracket) (ts : List Tree) (m : Marked) (more : List (Result Marked ℕ)) (fault : SexpFault)
    → HasRead text outer ts (Ok m ∷ more) → MarkFault m.mark (length outer) m.span.from fault → IsFirstFault (seen_from text 0) fault
refused text outer ts m more fault h at_fault =
    first_fault _ more (Ok m) (marks_so_far outer ts) (length outer) fault h.seen h.depth
    (subst (λ (d : ℕ). MarkFault m.mark d m.span.from fault) (sym (depth_is (marks_so_far outer ts) (length outer) h.depth)) at_fault)

last_of : {X : Type 0} (xs : List X) → (xs ≡ []) ⊎ ((front : List X) × (last : X) × (xs ≡ front ++ last ∷ []))
last_of [] = inl refl
last_of {X} (x ∷ xs) =
    elim (last_of xs) [
      | inl none ↦ inr ([], x, ap (λ (l : List X). x ∷ l) none)
      | inr found ↦ inr (x ∷ found.0, found.1, ap (λ (l : List X). x ∷ l) found.2)
    ]

one_longer : {X : Type 0} (xs : List X) (x : X) → length (xs ++ x ∷ []) ≡ length xs + 1
one_longer xs x = length-append xs (x ∷ [])

read_on : (text : List ℕ) (items : List Item) → All IsPlacedItem items → (outer : List Bracket) (ts : List Tree) → HasRead text outer ts (map seen_of items)
    → IsAnswered text
read_on text [] placed [] ts h = inl (ts, are_trees text ts (h.seen ∙ append-nil (all_allowed (marks_of_all ts))) h.depth)
read_on text [] placed (o ∷ os) ts h =
    inr (faults.Unclosed (place o), is_unclosed before place text o os ts (h.seen ∙ append-nil (all_allowed (marks_so_far (o ∷ os) ts))) h.depth)
read_on text (Bad position ∷ items) placed outer ts h =
    inr (faults.BadByte position, first_fault _ _ (Err position) (marks_so_far outer ts) (length outer) (faults.BadByte position) h.seen h.depth refl)
read_on text (Says (Leaf w) from to ∷ items) placed outer ts h =
    let span : Span = record { from = from; to = to } in
    let m : Marked = marked marks.Leaf from to in
    read_on text items (All-tail IsPlacedItem _ items placed) outer (ts ++ trees.Leaf span ∷ [])
    (taken text outer outer ts (ts ++ trees.Leaf span ∷ []) m m _ h refl (leaf_marks before place outer ts span) refl)
read_on text (Says Opening from to ∷ items) placed outer ts h =
    let m : Marked = marked marks.Opening from to in
    let next = outer ++ (ts, from) ∷ [] in
    let same = ap (λ (k : ℕ). marked marks.Opening from k) (All-head IsPlacedItem _ items placed) in
    elim (cases_Bool (eqb (length outer) 64)) [
      | inl full ↦ inr (faults.TooDeep from, refused text outer ts m _ (faults.TooDeep from) h (eqb-true _ _ full, refl))
      | inr other ↦
          read_on text items (All-tail IsPlacedItem _ items placed) next []
          (taken text outer next ts [] m (marked marks.Opening from (from + 1)) _ h same (opened_marks before place outer (ts, from))
          (cond-false _ _ _ other ∙ ap (λ (n : ℕ). Some n) (sym (one_longer outer (ts, from)))))
    ]
read_on text (Says Closing from to ∷ items) placed outer ts h =
    let m : Marked = marked marks.Closing from to in
    let next : List Bracket = outer in
    let same = ap (λ (k : ℕ). marked marks.Closing from k) (All-head IsPlacedItem _ items placed) in
    elim (last_of outer) [
      | inl none ↦ inr (faults.Stray from, refused text outer ts m _ (faults.Stray from) h (ap length none, refl))
      | inr found ↦
          let front = found.0 in
          let o = found.1 in
          let us = before o ++ trees.List (record { from = place o; to = from + 1 }) ts ∷ [] in
          let at : (from + 1) - 1 ≡ from = omega arith in
          let closed = closed_marks before place front o ts (from + 1) in
          let marks-are = closed ∙ ap (λ (k : ℕ). (open_marks before place (front ++ o ∷ []) ++ marks_of_all ts) ++ marked marks.Closing k (from + 1) ∷ []) at
          ∙ ap (λ (os : List Bracket). marks_so_far os ts ++ marked marks.Closing from (from + 1) ∷ []) (sym found.2) in
          let depth : length outer ≡ suc (length front) = ap length found.2 ∙ one_longer front o ∙ add-one (length front) in
          read_on text items (All-tail IsPlacedItem _ items placed) front us
          (taken text outer front ts us m (marked marks.Closing from (from + 1)) _ h same marks-are (ap (depth_after marks.Closing) depth))
    ]

pub some_answer : (text : List ℕ) → IsAnswered text
some_answer text = read_on text (items_at text 0) (items_placed false 0 (drop 0 text)) [] [] (record { seen = refl; depth = refl })
