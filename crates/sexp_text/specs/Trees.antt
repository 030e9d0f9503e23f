-- The trees of a text, and the first fault of a text that has none.
use Rattle.std.specs.Prelude.{ℕ, ◌≡◌, ◌+◌, ◌-◌, ◌<◌, Bool, true, false, List, [], ◌∷◌, ◌++◌, Result, Ok, Err, map, flat_map, filter, length}
use Rattle.sexp_text.specs.Pieces.{Token, Opening, Closing, Leaf}
use Rattle.sexp_text.specs.Reading.{Item, Says, Bad, items_at}
use Rattle.sexp_text.specs.declared.marks.Mark.{Mark}
use Rattle.sexp_text.specs.declared.marks.Mark.TheVariants as marks
use Rattle.sexp_text.specs.declared.marks.Marked.{Marked}
use Rattle.sexp_text.specs.declared.trees.Tree.{Tree, Tree-F, fold-Tree}
use Rattle.sexp_text.specs.declared.trees.Tree.TheOpen as layer
use Rattle.sexp_text.specs.declared.trees.SexpFault.{SexpFault}
use Rattle.sexp_text.specs.declared.trees.SexpFault.TheVariants as faults

abbrev pub marked : Mark → ℕ → ℕ → Marked
marked mark from to = record { mark = mark; span = record { from = from; to = to } }

-- the leaves and brackets of a tree in order; a list's place begins with its first bracket and ends with its last
abbrev pub marks_layer : Tree-F (List Marked) → List Marked
marks_layer (layer.Leaf span) = marked marks.Leaf span.from span.to ∷ []
marks_layer (layer.List span trees) =
    marked marks.Opening span.from (span.from + 1) ∷ (flat_map (λ ms. ms) trees ++ marked marks.Closing (span.to - 1) span.to ∷ [])

abbrev pub marks_of : Tree → List Marked
marks_of = fold-Tree (List Marked) marks_layer

abbrev pub marks_of_all : List Tree → List Marked
marks_of_all trees = flat_map marks_of trees

abbrev pub mark_of_token : Token → Mark
mark_of_token Opening = marks.Opening
mark_of_token Closing = marks.Closing
mark_of_token (Leaf w) = marks.Leaf

-- a leaf or bracket by its place, or the position of a byte that isn't allowed
abbrev pub seen_of : Item → Result Marked ℕ
seen_of (Says token from to) = Ok (marked (mark_of_token token) from to)
seen_of (Bad position) = Err position

abbrev pub seen_from : List ℕ → ℕ → List (Result Marked ℕ)
seen_from text at = map seen_of (items_at text at)

abbrev pub is_opening : Mark → Bool
is_opening marks.Opening = true
is_opening marks.Closing = false
is_opening marks.Leaf = false

abbrev pub is_closing : Mark → Bool
is_closing marks.Opening = false
is_closing marks.Closing = true
is_closing marks.Leaf = false

-- how many brackets are open behind these marks: the opening ones less the closing ones
abbrev pub depth_behind : List Marked → ℕ
depth_behind ms = length (filter (λ m. is_opening m.mark) ms) - length (filter (λ m. is_closing m.mark) ms)

-- the fault of a mark before which so many brackets are open: 64 others before an opening one, none before a closing one
abbrev pub MarkFault : Mark → ℕ → ℕ → SexpFault → Type 0
MarkFault marks.Opening depth position fault = (depth ≡ 64) × (fault ≡ faults.TooDeep position)
MarkFault marks.Closing depth position fault = (depth ≡ 0) × (fault ≡ faults.Stray position)
MarkFault marks.Leaf depth position fault = ⊥

-- the fault of what stands behind these marks
abbrev pub FaultBehind : List Marked → Result Marked ℕ → SexpFault → Type 0
FaultBehind before (Ok m) fault = MarkFault m.mark (depth_behind before) m.span.from fault
FaultBehind before (Err position) fault = fault ≡ faults.BadByte position

-- no mark is a fault
abbrev pub IsSound : List Marked → Type 0
IsSound ms =
    (before rest : List Marked) (m : Marked) (fault : SexpFault) → ms ≡ before ++ m ∷ rest → FaultBehind before (Ok m) fault → ⊥

abbrev pub all_allowed : List Marked → List (Result Marked ℕ)
all_allowed ms = map (λ m. Ok m) ms

-- the first fault in the order of the text
pub record IsFirstFault (seen : List (Result Marked ℕ)) (fault : SexpFault) : Type 0 where
  pub before : List Marked
  pub here : Result Marked ℕ
  pub rest : List (Result Marked ℕ)
  pub seen_is : seen ≡ all_allowed before ++ here ∷ rest
  pub sound_before : IsSound before
  pub a_fault : FaultBehind before here fault

-- there is no fault, but the outermost bracket that isn't closed stands here
pub record IsUnclosed (seen : List (Result Marked ℕ)) (position : ℕ) : Type 0 where
  pub before : List Marked
  pub bracket : Marked
  pub rest : List Marked
  pub seen_is : seen ≡ all_allowed (before ++ bracket ∷ rest)
  pub sound : IsSound (before ++ bracket ∷ rest)
  pub opens : bracket.mark ≡ marks.Opening
  pub place : bracket.span.from ≡ position
  pub outermost : depth_behind before ≡ 0
  pub unclosed : (front more : List Marked) → rest ≡ front ++ more → 0 < depth_behind (before ++ bracket ∷ front)

-- the trees of a text without a fault
pub record AreTrees (text : List ℕ) (trees : List Tree) : Type 0 where
  pub marks_are : seen_from text 0 ≡ all_allowed (marks_of_all trees)
  pub sound : IsSound (marks_of_all trees)

-- the first fault of a text that has no trees; want of memory is no fault of a text
abbrev pub IsTextFault : List ℕ → SexpFault → Type 0
IsTextFault text (faults.Unclosed position) = IsUnclosed (seen_from text 0) position
IsTextFault text (faults.Stray position) = IsFirstFault (seen_from text 0) (faults.Stray position)
IsTextFault text (faults.BadByte position) = IsFirstFault (seen_from text 0) (faults.BadByte position)
IsTextFault text (faults.TooDeep position) = IsFirstFault (seen_from text 0) (faults.TooDeep position)
IsTextFault text faults.NoMemory = ⊥
