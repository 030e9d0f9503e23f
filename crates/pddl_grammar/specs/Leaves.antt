-- Leaves that a domain or a problem may have.
use Rattle.std.specs.Prelude.{ℕ, ◌≡◌, ◌≤◌, ◌++◌, false, List, ◌∷◌, Some, length, IsTrue}
use Rattle.num_ends.specs.Decimal.{Decimal}
use Rattle.num_ends.specs.Names.{is_name}
use Rattle.sexp_text.specs.Trees.{marks_of}
use Rattle.sexp_text.specs.declared.marks.Mark.TheVariants as marks
use Rattle.sexp_text.specs.declared.marks.Marked.{Marked}
use Rattle.sexp_text.specs.declared.trees.Tree.{Tree}
use Rattle.pddl_trees.specs.Words.{bare_name, word_in, is_among, unsupported_words, is_number_word, number_in}
use Rattle.pddl_terms.specs.declared.limits.TheConstants.{MAX_LETTERS}

-- a number that is taken, or a word that isn't refused and whose name isn't too long
pub data IsFitLeaf (w : List ℕ) : Type 0 where
  a_number : (d : Decimal) → IsTrue (is_number_word w) → number_in w ≡ Some d → IsFitLeaf w
  a_word : is_number_word w ≡ false → (IsTrue (is_name (bare_name w)) → length (bare_name w) ≤ MAX_LETTERS) → is_among w unsupported_words ≡ false → IsFitLeaf w

-- so are all leaves of a tree
abbrev pub HasFitLeaves : List ℕ → Tree → Type 0
HasFitLeaves text t =
    (front rest : List Marked) (m : Marked) → marks_of t ≡ front ++ m ∷ rest → m.mark ≡ marks.Leaf → IsFitLeaf (word_in text m.span)
