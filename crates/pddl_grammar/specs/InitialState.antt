-- Facts and values of the initial state, as trees spell them.
use Rattle.std.specs.Prelude.{ℕ, ◌≡◌, false, not, List, [], ◌∷◌, Some, codes, IsTrue}
use Rattle.num_ends.specs.Decimal.{Decimal}
use Rattle.sexp_text.specs.declared.trees.Tree.{Tree}
use Rattle.pddl_terms.specs.declared.names.Atom.{Atom}
use Rattle.pddl_trees.specs.Words.{is_number_word, number_in}
use Rattle.pddl_grammar.specs.Trees.{Begins, IsWordAt}
use Rattle.pddl_grammar.specs.Atoms.{SpellsAtom}

-- (= FLUENT number)
pub record SpellsValue (text : List ℕ) (t : Tree) (value : Atom × Decimal) : Type 0 where
  pub at : ℕ
  pub fluent : Tree
  pub number : Tree
  pub number_at : ℕ
  pub word : List ℕ
  pub list : Begins text t at (codes "=") (fluent ∷ number ∷ [])
  pub atom : SpellsAtom text false fluent value.0
  pub leaf : IsWordAt text number number_at word
  pub a_number : IsTrue (is_number_word word)
  pub number_is : number_in word ≡ Some value.1

-- entries in order: facts, values of fluents, and negated facts, which say nothing
pub data SpellsEntries (text : List ℕ) : List Tree → List Atom → List (Atom × Decimal) → Type 0 where
  none : SpellsEntries text [] [] []
  fact : (t : Tree) (ts : List Tree) (a : Atom) (facts : List Atom) (values : List (Atom × Decimal))
      → SpellsAtom text false t a → SpellsEntries text ts facts values → SpellsEntries text (t ∷ ts) (a ∷ facts) values
  value : (t : Tree) (ts : List Tree) (v : Atom × Decimal) (facts : List Atom) (values : List (Atom × Decimal))
      → SpellsValue text t v → SpellsEntries text ts facts values → SpellsEntries text (t ∷ ts) facts (v ∷ values)
  negative : (t u : Tree) (at : ℕ) (ts : List Tree) (a : Atom) (facts : List Atom) (values : List (Atom × Decimal))
      → Begins text t at (codes "not") (u ∷ []) → SpellsAtom text false u a → SpellsEntries text ts facts values
      → SpellsEntries text (t ∷ ts) facts values
