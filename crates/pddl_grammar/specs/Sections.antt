-- The frame and the sections of a domain or a problem.
use Rattle.std.specs.Prelude.{ℕ, ◌≡◌, ◌++◌, ◌&&◌, Bool, true, not, List, [], ◌∷◌, codes, bytes_eq, IsTrue}
use Rattle.std.specs.List.{filter}
use Rattle.sexp_text.specs.declared.trees.Tree.{Tree}
use Rattle.pddl_terms.specs.declared.names.Name.{Name}
use Rattle.pddl_trees.specs.Words.{is_among}
use Rattle.pddl_grammar.specs.Trees.{Begins, Each}
use Rattle.pddl_grammar.specs.Atoms.{SpellsName}

-- no word stands twice
abbrev pub is_distinct : List (List ℕ) → Bool
is_distinct [] = true
is_distinct (w ∷ ws) = not (is_among w ws) && is_distinct ws

pub record IsSection (text : List ℕ) (known : List (List ℕ)) (t : Tree) (word : List ℕ) : Type 0 where
  pub at : ℕ
  pub parts : List Tree
  pub list : Begins text t at word parts
  pub a_section : IsTrue (is_among word known)

-- sections of these names in any order; each but `:action` stands at most once
pub record AreSections (text : List ℕ) (known : List (List ℕ)) (ss : List Tree) : Type 0 where
  pub words : List (List ℕ)
  pub each : Each (IsSection text known) ss words
  pub once : IsTrue (is_distinct (filter (λ w. not (bytes_eq w (codes ":action"))) words))

-- what stands in the section of a name behind its word, or nothing where there is no such section
pub data HasContent (text : List ℕ) (word : List ℕ) : List Tree → List Tree → Type 0 where
  absent : (ss : List Tree) → ((s : Tree) (front rest parts : List Tree) (at : ℕ) → ss ≡ front ++ s ∷ rest → Begins text s at word parts → ⊥) → HasContent text word ss []
  there : (front rest : List Tree) (s : Tree) (at : ℕ) (parts : List Tree) → Begins text s at word parts → HasContent text word (front ++ s ∷ rest) parts

-- a section of a name is there, with these parts behind its word
pub record HasSection (text : List ℕ) (word : List ℕ) (ss : List Tree) (parts : List Tree) : Type 0 where
  pub front : List Tree
  pub rest : List Tree
  pub section : Tree
  pub at : ℕ
  pub split : ss ≡ front ++ section ∷ rest
  pub list : Begins text section at word parts

-- (define (WORD NAME) section ..)
pub record IsFrame (text : List ℕ) (word : List ℕ) (t : Tree) (name : Name) (sections : List Tree) : Type 0 where
  pub at : ℕ
  pub definition : Tree
  pub definition_at : ℕ
  pub named : Tree
  pub list : Begins text t at (codes "define") (definition ∷ sections)
  pub what : Begins text definition definition_at word (named ∷ [])
  pub name_is : SpellsName text named name
