-- Trees that are leaves or lists, in their places.
use Rattle.std.specs.Prelude.{ℕ, ◌≡◌, List, [], ◌∷◌}
use Rattle.sexp_text.specs.declared.marks.Span.{Span}
use Rattle.sexp_text.specs.declared.trees.Tree.{Tree}
use Rattle.sexp_text.specs.declared.trees.Tree.TheVariants as tree
use Rattle.pddl_trees.specs.Words.{word_in}

-- the two lists are equally long, and their members stand so to each other
pub data Each {A B : Type 0} (R : A → B → Type 0) : List A → List B → Type 0 where
  none : Each R [] []
  next : (x : A) (y : B) (xs : List A) (ys : List B) → R x y → Each R xs ys → Each R (x ∷ xs) (y ∷ ys)

-- a leaf at a position, with its word
pub record IsWordAt (text : List ℕ) (t : Tree) (at : ℕ) (w : List ℕ) : Type 0 where
  pub span : Span
  pub is_leaf : t ≡ tree.Leaf span
  pub place : at ≡ span.from
  pub word : w ≡ word_in text span

-- a list whose bracket stands at a position, with its parts
pub record IsListAt (t : Tree) (at : ℕ) (parts : List Tree) : Type 0 where
  pub span : Span
  pub is_list : t ≡ tree.List span parts
  pub place : at ≡ span.from

-- a list that begins with a word, with the parts behind it
pub record Begins (text : List ℕ) (t : Tree) (at : ℕ) (w : List ℕ) (parts : List Tree) : Type 0 where
  pub first : Tree
  pub first_at : ℕ
  pub list : IsListAt t at (first ∷ parts)
  pub word : IsWordAt text first first_at w
