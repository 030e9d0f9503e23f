-- A text has no more leaves and brackets than bytes.
use Rattle.std.proofs.Common.{◌≡◌, ℕ, suc, ◌+◌, ◌≤◌, Bool, true, false, cond, eqb, List, [], ◌∷◌, length, drop, take, map, Ok, ap, ◌∙◌, sym, length-drop, arith}
use Rattle.std.proofs.lemmas.List.{length-map}
use Rattle.num_ends.specs.Names.{folded}
use Rattle.sexp_text.specs.Pieces.{Opening, Closing, Leaf, is_word_byte}
use Rattle.sexp_text.specs.Reading.{Item, Says, Bad, begins_word, comment_after, is_gap_byte, items_at, items_from, word_len}
use Rattle.sexp_text.specs.declared.marks.Marked.{Marked}
use Rattle.sexp_text.specs.declared.trees.Tree.{Tree}
use Rattle.sexp_text.specs.Trees.{all_allowed, AreTrees, marks_of_all, seen_from, seen_of}

if_few : (b : Bool) (n : ℕ) (xs ys : List Item) → length xs ≤ n → length ys ≤ n → length (cond b xs ys) ≤ n
if_few true n xs ys hx hy = hx
if_few false n xs ys hx hy = hy

one_more : (n : ℕ) (i : Item) (xs : List Item) → length xs ≤ n → length (i ∷ xs) ≤ suc n
one_more n i xs h = omega arith

behind_first : (n : ℕ) (xs : List Item) → length xs ≤ n → length (drop 1 xs) ≤ n
behind_first n [] h = h
behind_first n (x ∷ xs) h = omega arith

few_items : (comment : Bool) (at : ℕ) (text : List ℕ) → length (items_from comment at text) ≤ length text
unfolding items_from
few_items comment at [] = omega arith
few_items comment at (b ∷ bs) =
    let next = few_items false (suc at) bs in
    let n = length bs in
    if_few (is_gap_byte comment b) (suc n) _ _ (wider n _ (few_items (comment_after comment b) (suc at) bs))
    (if_few (eqb b 40) (suc n) _ _ (one_more n (Says Opening at (suc at)) _ next)
    (if_few (eqb b 41) (suc n) _ _ (one_more n (Says Closing at (suc at)) _ next)
    (if_few (is_word_byte b) (suc n) _ _ (one_more n (Says (Leaf (map folded (take (word_len (b ∷ bs)) (b ∷ bs)))) at (at + word_len (b ∷ bs))) _ (if_few (begins_word bs) n _ _ (behind_first n _ next) next))
    (one_more n (Bad at) [] (omega arith)))))
  where
    wider : (n k : ℕ) → k ≤ n → k ≤ suc n
    wider n k h = omega arith

pub few_marks : (text : List ℕ) (ts : List Tree) → AreTrees text ts → length (marks_of_all ts) ≤ length text
few_marks text ts x =
    let items = few_items false 0 (drop 0 text) in
    let seen = length-map (items_at text 0) seen_of in
    let allowed : length (all_allowed (marks_of_all ts)) ≡ length (marks_of_all ts) = length-map (marks_of_all ts) (λ (m : Marked). Ok m) in
    let same = ap length x.marks_are in
    omega arith
