-- Lists of names with their types, as trees spell them.
use Rattle.std.specs.Prelude.{ℕ, ◌++◌, Bool, List, ◌∷◌, codes, IsTrue}
use Rattle.sexp_text.specs.declared.trees.Tree.{Tree}
use Rattle.pddl_terms.specs.declared.names.Name.{Name}
use Rattle.pddl_terms.specs.declared.names.Typed.{Typed}
use Rattle.pddl_trees.specs.TypedLists.{untyped, typed_as}
use Rattle.pddl_grammar.specs.Trees.{Each, IsWordAt}
use Rattle.pddl_grammar.specs.Atoms.{SpellsName}

-- names that fit, in a row
pub record FitsAs (text : List ℕ) (fits : List ℕ → Bool) (t : Tree) (name : Name) : Type 0 where
  pub word : IsWordAt text t name.at name.text
  pub fitting : IsTrue (fits name.text)

-- groups of names, each with `-` and its type behind it, but for the last, whose type may be left out
pub data SpellsTyped (text : List ℕ) (fits : List ℕ → Bool) : List Tree → List Typed → Type 0 where
  last : (ts : List Tree) (names : List Name) → Each (FitsAs text fits) ts names → SpellsTyped text fits ts (untyped names)
  group : (t : Tree) (ts : List Tree) (n : Name) (names : List Name) (dash : Tree) (at : ℕ) (k : Tree) (kind : Name) (rest : List Tree) (items : List Typed)
      → Each (FitsAs text fits) (t ∷ ts) (n ∷ names) → IsWordAt text dash at (codes "-") → SpellsName text k kind → SpellsTyped text fits rest items
      → SpellsTyped text fits ((t ∷ ts) ++ dash ∷ k ∷ rest) (typed_as kind (n ∷ names) ++ items)
